-- `tree_filling::filling::fill` meets its contract. The invariant, `FillingTree`: the leaves are the first i runs.
use Rattle.tree_filling.proofs.FillSteps.{FillingTree}
use Rattle.tree_filling.proofs.filling.fill.Given as goal

abbrev pub invariant-loop-i : goal.invariant-loop-i
invariant-loop-i l = FillingTree l.runs l.initial.words l.count l.words l.i
