-- `make_load::write_pieces` meets its contract: the walk goes on from piece to piece, each piece lies in the buffer, and each has one vector at the least.
use Rattle.make_load.proofs.WriteCases.{Writing}
use Rattle.make_load.proofs.write_pieces.Given as goal

abbrev pub invariant-loop-walk : goal.invariant-loop-walk
invariant-loop-walk g l = Writing l.initial.records l.initial.walk l.records l.walk

abbrev pub decreases-loop-walk : goal.decreases-loop-walk
decreases-loop-walk g l = l.walk.left
