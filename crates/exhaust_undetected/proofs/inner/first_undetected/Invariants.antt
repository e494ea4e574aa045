-- `exhaust_undetected::inner::first_undetected` meets its contract: with what is left to list, the words and the number are the whole's.
use Rattle.model.proofs.Prelude.{◌-◌}
use Rattle.exhaust_undetected.proofs.ListedCases.{Listing}
use Rattle.exhaust_undetected.specs.Undetected.{most_listed}
use Rattle.exhaust_undetected.proofs.inner.first_undetected.Given as goal

abbrev pub invariant-loop-count : goal.invariant-loop-count
invariant-loop-count l = Listing l.words l.paths l.initial.list l.list l.from l.count (most_listed - l.count)
