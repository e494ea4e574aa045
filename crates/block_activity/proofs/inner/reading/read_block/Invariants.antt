-- `block_activity::inner::reading::read_block` meets its contract. The invariant, `ReadSoFar`: the records before byte `at` are legal, and their vectors stand
-- in the array.
use Rattle.block_activity.proofs.BlockReadCases.{ReadSoFar}
use Rattle.block_activity.proofs.inner.reading.read_block.Given as goal

abbrev pub invariant-loop-records : goal.invariant-loop-records
invariant-loop-records l = ReadSoFar l.inputs l.tests l.vectors l.at l.records
