-- `listing_walk::inner::list_pieces` meets its contract. The invariant, `ListedSoFar`: what was read so far is whole records, and they were listed.
use Rattle.model.proofs.Prelude.{◌-◌, ◌≡◌, length}
use Rattle.listing_walk.proofs.ListingCases.{ListedSoFar}
use Rattle.listing_walk.proofs.inner.list_pieces.Given as goal

-- look: 20 parameters, not 20
abbrev pub invariant-loop-so_far : goal.invariant-loop-so_far
invariant-loop-so_far l =
    ListedSoFar l.netlist l.loaded l.class l.full (length l.initial.space) l.initial.work l.lines.place l.lines.bytes l.so_far l.space l.store l.work l.out
    × (length l.space ≡ length l.initial.space) × (length l.store ≡ length l.initial.store) × (length l.work ≡ length l.initial.work) × (length l.out ≡ length l.initial.out)

-- look: 20 parameters, not 20
abbrev pub decreases-loop-so_far : goal.decreases-loop-so_far
decreases-loop-so_far l =
    9223372036854775808 - l.so_far
