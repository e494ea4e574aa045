-- `path_of_number::writing::clear` meets its contract.
use Rattle.model.proofs.Prelude.{◌≤◌, ◌-◌, ◌≡◌, length}
use Rattle.path_of_number.specs.Tasks.{blank}
use Rattle.path_of_number.proofs.writing.clear.Given as goal

abbrev pub invariant-loop-i : goal.invariant-loop-i
invariant-loop-i l = (l.i ≤ 513) × (513 ≤ length l.initial.path) × (length l.path ≡ length l.initial.path) × (l.path ≡ blank l.i l.initial.path)
