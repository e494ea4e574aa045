-- `audit_records::inner::apply_blocks` meets its contract. The invariant, `TakingBlocks`: the records that are left, from the store so far, give the whole.
use Rattle.model.proofs.Prelude.{◌-◌, length}
use Rattle.audit_records.proofs.FileBlockSteps.{TakingBlocks}
use Rattle.audit_records.proofs.inner.apply_blocks.Given as goal

abbrev pub invariant-loop-at : goal.invariant-loop-at
invariant-loop-at l =
    TakingBlocks l.table l.offsets l.file l.tests l.initial.rising_lists l.initial.falling_lists l.initial.store l.initial.work l.rising_lists l.falling_lists l.store l.work l.at l.taken

abbrev pub decreases-loop-at : goal.decreases-loop-at
decreases-loop-at l = length l.tests - l.at
