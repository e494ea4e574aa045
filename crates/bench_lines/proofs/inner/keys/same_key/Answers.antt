-- `bench_lines::inner::keys::same_key` meets its contract.
use Rattle.model.proofs.Prelude.{rules}
use Rattle.bench_lines.proofs.KeyLaws.{meet_no, meet_high}
use Rattle.bench_lines.proofs.inner.keys.same_key.Goals as goal

pub returns-then-words-at : goal.returns-then-words-at
returns-then-words-at c = search (meet_no, rules)

pub returns : goal.returns
returns c = search (meet_high, rules)
