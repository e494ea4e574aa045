-- `bench_lines::inner::keys::find_key` meets its contract: the place among the keys that are left gives the whole.
use Rattle.model.proofs.Prelude.{rules}
use Rattle.bench_lines.proofs.KeyLaws.{find_start, find_again, find_here, find_none}
use Rattle.bench_lines.proofs.inner.keys.find_key.Goals as goal

pub loop-i-init : goal.loop-i-init
loop-i-init c = search (find_start, rules)

pub returns-then-same : goal.returns-then-same
returns-then-same c = search (find_here, rules)

pub loop-i-preserved : goal.loop-i-preserved
loop-i-preserved c = search (find_again, rules)

pub returns : goal.returns
returns c = search (find_none, rules)
