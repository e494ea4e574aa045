-- The texts are as long, and what is left to compare gives the whole answer.
use Rattle.model.proofs.Prelude.{◌≤◌, ◌≡◌, length, drop}
use Rattle.model.specs.Report.{same_bytes}
use Rattle.program_files.proofs.arguments.same_text.Given as goal

abbrev pub invariant-loop-i : goal.invariant-loop-i
invariant-loop-i l =
    (l.i ≤ length l.left) × (length l.left ≡ length l.right) × (same_bytes (drop l.i l.left) (drop l.i l.right) ≡ same_bytes l.left l.right)
