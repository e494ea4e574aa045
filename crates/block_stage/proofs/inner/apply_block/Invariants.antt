-- `block_stage::inner::apply_block` meets its contract. The invariant, `Applying`: the tests that are left, from the store so far, give the whole.
use Rattle.block_stage.proofs.BlockSteps.{Applying}
use Rattle.block_stage.proofs.inner.apply_block.Given as goal

abbrev pub invariant-loop-t : goal.invariant-loop-t
invariant-loop-t l =
    Applying l.table l.offsets l.rising_lists l.falling_lists l.marks l.initial.store l.initial.work l.inputs l.records l.store l.work l.spans l.t
