-- `bench_lines::inner::statements::io_place` meets its contract: its words are the keys of INPUT and OUTPUT.
use Rattle.model.proofs.Prelude.{rules}
use Rattle.bench_lines.proofs.StatementLaws.{io_is}
use Rattle.bench_lines.proofs.inner.statements.io_place.Goals as goal

pub returns : goal.returns
returns c = search (io_is, rules)
