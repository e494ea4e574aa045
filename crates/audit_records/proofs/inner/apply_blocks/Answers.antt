-- `audit_records::inner::apply_blocks` meets its contract. The invariant, `TakingBlocks`: the records that are left, from the store so far, give the whole.
use Rattle.model.proofs.Prelude.{arith}
use Rattle.audit_records.proofs.FileBlockSteps.{block-fits, taking_less, taking_next, blocks-cases}
use Rattle.audit_records.proofs.inner.apply_blocks.Goals as goal

pub record_length-bytes-requires : goal.record_length-bytes-requires
record_length-bytes-requires c = search blocks-cases

pub loop-at-init : goal.loop-at-init
loop-at-init c = search blocks-cases

pub take_block-block-requires : goal.take_block-block-requires
take_block-block-requires c = search blocks-cases

pub overflow_add-result : goal.overflow_add-result
overflow_add-result c = search blocks-cases

pub returns-in-Err : goal.returns-in-Err
returns-in-Err c = search blocks-cases

pub overflow_mul-at : goal.overflow_mul-at
overflow_mul-at c =
    record { fits = block-fits _ _ _ _ _ _ _ _ c.requires c.loop-at.invariant c.record_length-bytes.ensures.0 c.take_block-block.ensures }

pub overflow_add-at : goal.overflow_add-at
overflow_add-at c = search blocks-cases

pub overflow_add-taken : goal.overflow_add-taken
overflow_add-taken c = search blocks-cases

pub loop-at-smaller : goal.loop-at-smaller
loop-at-smaller c =
    taking_less _ _ _ _ _ _ _ _ c.requires c.loop-at.invariant c.record_length-bytes.ensures.0 c.take_block-block.ensures c.in-Ok.is
    (omega (arith, c.loop-at-test.true))

pub loop-at-preserved : goal.loop-at-preserved
loop-at-preserved c =
    taking_next _ _ _ _ _ _ _ _ c.requires c.loop-at.invariant c.record_length-bytes.ensures.0 c.take_block-block.ensures c.in-Ok.is

pub returns : goal.returns
returns c = search blocks-cases
