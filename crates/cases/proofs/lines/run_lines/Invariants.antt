-- `cases::lines::run_lines` is safe and ends: the place stays in the script.
use Rattle.model.proofs.Prelude.{◌≤◌, ◌-◌, ◌≡◌, length}
use Rattle.cases.proofs.lines.run_lines.Given as goal

abbrev pub invariant-loop-at : goal.invariant-loop-at
invariant-loop-at l =
    (l.at ≤ length l.script) × (length l.cells ≡ length l.initial.cells) × (length l.store ≡ length l.initial.store) × (length l.work ≡ length l.initial.work)

abbrev pub decreases-loop-at : goal.decreases-loop-at
decreases-loop-at l = length l.script - l.at
