-- `read_until_full` ends, since each turn leaves less to fill.
use Rattle.std.specs.Prelude.{◌≡◌, ◌-◌, ◌^◌, ◌≤◌, ◌<◌, length}
use Rattle.program_files.proofs.files.read_until_full.Given as goal

abbrev pub invariant-loop-done : goal.invariant-loop-done
invariant-loop-done l = (length l.space ≡ length l.initial.space) × (l.done ≤ length l.space) × (length l.space < 2 ^ 64)

abbrev pub decreases-loop-done : goal.decreases-loop-done
decreases-loop-done l = length l.space - l.done
