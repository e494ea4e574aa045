-- `block_counting::inner::count_block` meets its contract. The invariant, `CountingBlock`: the answers of the tests before test t, on the store after them.
use Rattle.model.proofs.Prelude.{◌-◌}
use Rattle.block_counting.proofs.CountSteps.{CountingBlock}
use Rattle.block_counting.proofs.inner.count_block.Given as goal

abbrev pub invariant-loop-t : goal.invariant-loop-t
invariant-loop-t l =
    CountingBlock l.table l.offsets l.rising_lists l.falling_lists l.marks l.initial.store l.initial.work l.inputs l.records l.store l.work l.spans l.answers l.held l.t
