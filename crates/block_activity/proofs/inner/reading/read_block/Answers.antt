-- `block_activity::inner::reading::read_block` meets its contract. The invariant, `ReadSoFar`: the records before byte `at` are legal, and their vectors stand
-- in the array.
use Rattle.model.proofs.Prelude.{arith}
use Rattle.block_activity.proofs.BlockReadCases.{read_more, read-cases}
use Rattle.block_activity.proofs.inner.reading.read_block.Goals as goal

pub loop-records-init : goal.loop-records-init
loop-records-init c = search read-cases

pub returns-then-tests-at : goal.returns-then-tests-at
returns-then-tests-at c = search read-cases

pub returns-in-Err : goal.returns-in-Err
returns-in-Err c = search read-cases

pub loop-records-preserved : goal.loop-records-preserved
loop-records-preserved c =
    read_more c.loop-records.invariant _ c.record_length-bytes.ensures.0 c.if-tests-at.false (omega (arith, c.loop-records-test.true))
    c.check_record-answer.ensures c.in-Ok.is c.read_vectors-read.ensures

pub returns : goal.returns
returns c = search read-cases
