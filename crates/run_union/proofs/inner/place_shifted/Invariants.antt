-- `run_union::inner::place_shifted` meets its contract: the words are those with the runs placed so far written.
use Rattle.run_union.proofs.PlacingSteps.{Placing}
use Rattle.run_union.proofs.inner.place_shifted.Given as goal

abbrev pub invariant-loop-i : goal.invariant-loop-i
invariant-loop-i l = Placing l.initial.words l.from l.to l.place l.offset l.words l.i
