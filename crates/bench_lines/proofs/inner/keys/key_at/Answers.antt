-- `bench_lines::inner::keys::key_at` meets its contract: one word for a short name, two for a long one.
use Rattle.model.proofs.Prelude.{rules}
use Rattle.bench_lines.proofs.ValueLaws.{key_short, key_long}
use Rattle.bench_lines.proofs.inner.keys.key_at.Goals as goal

pub returns-then-to-from-le8 : goal.returns-then-to-from-le8
returns-then-to-from-le8 c = search (key_short, rules)

pub returns : goal.returns
returns c = search (key_long, rules)
