-- `listing_text::inner::put_runs` meets its contract. The invariant: the lines that are left, written from here, give the whole, and there is room for them.
use Rattle.model.proofs.Prelude.{◌≤◌, ◌+◌, ◌-◌, ◌*◌, ◌/◌, ◌≡◌, length, sets}
use Rattle.listing_text.proofs.RunSteps.{runs_left}
use Rattle.listing_text.proofs.inner.put_runs.Given as goal

abbrev pub invariant-loop-k : goal.invariant-loop-k
invariant-loop-k l =
    let count = length l.runs / 2 in
    let left = runs_left l.letter l.runs (2 * l.k) (count - l.k) in
    let whole = runs_left l.letter l.runs 0 count in
    (length l.out ≡ length l.initial.out)
    × (l.at + 44 * (count - l.k) ≤ l.start + 44 * count)
    × (sets l.out l.at left ≡ sets l.initial.out l.start whole)
    × (l.at + length left ≡ l.start + length whole)
