-- `exhaust_block::print_faults` is safe and ends: one fault less is left each time.
use Rattle.model.proofs.Prelude.{◌≤◌, ◌-◌, length}
use Rattle.exhaust_block.proofs.print_faults.Given as goal

abbrev pub invariant-loop-i : goal.invariant-loop-i
invariant-loop-i l = l.i ≤ length l.list
