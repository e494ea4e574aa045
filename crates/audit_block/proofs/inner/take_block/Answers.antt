-- `audit_block::inner::take_block` meets its contract: the records of a block are read and their tests applied, and each end is one case.
use Rattle.audit_block.proofs.BlockTakeCases.{read-ready, block_refused, block-next, block-onward, take_cases}
use Rattle.audit_block.proofs.inner.take_block.Goals as goal

pub read_block-read-requires : goal.read_block-read-requires
read_block-read-requires c = search take_cases

pub apply_tests-applied-requires : goal.apply_tests-applied-requires
apply_tests-applied-requires c =
    read-ready c.requires c.read_block-read.ensures.1

pub returns-in-Err : goal.returns-in-Err
returns-in-Err c =
    block_refused c.requires c.read_block-read.ensures.1 c.apply_tests-applied.ensures c.in-Err.is

pub returns-in-Err-after : goal.returns-in-Err-after
returns-in-Err-after c =
    block-next c.requires c.read_block-read.ensures.1 c.apply_tests-applied.ensures c.in-Ok.is c.in-Err-after.is

pub returns-in-Ok-after : goal.returns-in-Ok-after
returns-in-Ok-after c =
    block-onward c.requires c.read_block-read.ensures.1 c.apply_tests-applied.ensures c.in-Ok.is c.in-Ok-after.is
