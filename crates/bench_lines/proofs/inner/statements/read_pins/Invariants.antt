-- `bench_lines::inner::statements::read_pins` meets its contract: the pins so far, with those that are left, are the whole.
use Rattle.model.proofs.Prelude.{◌-◌, length}
use Rattle.bench_lines.proofs.StatementLaws.{PinsSoFar}
use Rattle.bench_lines.proofs.inner.statements.read_pins.Given as goal

abbrev pub invariant-loop-more : goal.invariant-loop-more
invariant-loop-more l = PinsSoFar l.line l.from l.to l.kind l.at l.place l.pins l.more

abbrev pub decreases-loop-more : goal.decreases-loop-more
decreases-loop-more l = length l.line - l.place
