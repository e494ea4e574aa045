-- `length_text::totals::total_of` meets its contract. The invariant: the sum is that of the numbers before the one at hand.
use Rattle.model.proofs.Prelude.{◌≤◌, ◌≡◌, take}
use Rattle.model.specs.Base.{sum_of}
use Rattle.length_text.specs.LengthTable.{capped}
use Rattle.length_text.proofs.totals.total_of.Given as goal

abbrev pub invariant-loop-number : goal.invariant-loop-number
invariant-loop-number l = (l.number-index ≤ 64) × (l.sum ≡ capped (sum_of (take l.number-index l.row)))
