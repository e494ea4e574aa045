-- `testfile_reading::inner::read_part` meets its contract: what was read lies in the part that was lent.
use Rattle.testfile_reading.proofs.ReadPieceLaws.{read-cases}
use Rattle.testfile_reading.proofs.inner.read_part.Goals as goal

pub slice_bounds-read_full-end-2 : goal.slice_bounds-read_full-end-2
slice_bounds-read_full-end-2 c = search read-cases

pub returns : goal.returns
returns c = search read-cases
