-- `testfile_reading::inner::whole_part` meets its contract: what is left of a division is taken away.
use native.Mathlib.Nat.{mod-le}
use Rattle.testfile_reading.proofs.ReadPieceLaws.{part-cases}
use Rattle.testfile_reading.proofs.inner.whole_part.Goals as goal

pub overflow_sub-result : goal.overflow_sub-result
overflow_sub-result c = mod-le _ _

pub returns : goal.returns
returns c = search part-cases
