-- `ask_walk::inner::take_input` meets its contract. The invariant, `TakingInput`: the state is that after what was read so far.
use Rattle.model.proofs.Prelude.{◌-◌}
use Rattle.ask_walk.proofs.InputSteps.{TakingInput}
use Rattle.ask_walk.proofs.inner.take_input.Given as goal

abbrev pub invariant-loop-so_far : goal.invariant-loop-so_far
invariant-loop-so_far l = TakingInput l.asking l.so_far l.initial.space l.space l.initial.out l.out

abbrev pub decreases-loop-so_far : goal.decreases-loop-so_far
decreases-loop-so_far l = 9223372036854775808 - l.so_far
