-- `report_differences::inner::walk::next_piece` meets its contract: the range from its first number to its last.
use Rattle.model.proofs.Prelude.{rules}
use Rattle.report_differences.proofs.inner.walk.next_piece.Goals as goal

pub enum_told-1 : goal.enum_told-1
enum_told-1 c = search rules
