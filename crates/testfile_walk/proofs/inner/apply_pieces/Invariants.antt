-- `testfile_walk::inner::apply_pieces` meets its contract. The invariant, `Reading`: what was read so far is whole records, and they were taken.
use Rattle.model.proofs.Prelude.{◌-◌, ◌≡◌, length}
use Rattle.testfile_walk.proofs.ReadingCases.{Reading}
use Rattle.testfile_walk.proofs.inner.apply_pieces.Given as goal

-- look: 18 parameters, not 18
abbrev pub invariant-loop-so_far : goal.invariant-loop-so_far
invariant-loop-so_far l =
    Reading l.netlist l.loaded l.class l.full (length l.initial.space) l.initial.work l.records l.so_far l.space l.store l.work
    × (length l.space ≡ length l.initial.space) × (length l.store ≡ length l.initial.store) × (length l.work ≡ length l.initial.work)

-- look: 18 parameters, not 18
abbrev pub decreases-loop-so_far : goal.decreases-loop-so_far
decreases-loop-so_far l =
    77309411311 - l.so_far
