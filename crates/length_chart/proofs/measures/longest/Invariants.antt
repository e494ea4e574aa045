-- `length_chart::measures::longest` meets its contract. The invariant: the greatest length is among those below `left`.
use mathlib.Core.Path.{◌≡◌}
use Prim.Native.Nat.{◌≤◌}
use Rattle.length_chart.specs.Chart.{longest_below}
use Rattle.length_chart.proofs.measures.longest.Given as goal

abbrev pub invariant-loop-left : goal.invariant-loop-left
invariant-loop-left l = (l.left ≤ 64) × (longest_below l.paths l.left ≡ longest_below l.paths 64)
