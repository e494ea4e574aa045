-- `bench_lines::inner::statements::kind_place` meets its contract: its words are the keys of the kinds.
use Rattle.model.proofs.Prelude.{rules}
use Rattle.bench_lines.proofs.StatementLaws.{kind-is}
use Rattle.bench_lines.proofs.inner.statements.kind_place.Goals as goal

pub returns : goal.returns
returns c = search (kind-is, rules)
