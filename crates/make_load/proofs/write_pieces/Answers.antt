-- `make_load::write_pieces` meets its contract: the walk goes on from piece to piece, each piece lies in the buffer, and each has one vector at the least.
use Rattle.make_load.proofs.WriteCases.{write-cases}
use Rattle.make_load.proofs.write_pieces.Goals as goal

pub loop-walk-init : goal.loop-walk-init
loop-walk-init g c = search write-cases

pub next_piece-next-requires : goal.next_piece-next-requires
next_piece-next-requires g c = search write-cases

pub slice_bounds-write_all-end : goal.slice_bounds-write_all-end
slice_bounds-write_all-end g c = search write-cases

pub slice_bounds-write_all-end-in-loop-walk : goal.slice_bounds-write_all-end-in-loop-walk
slice_bounds-write_all-end-in-loop-walk g c = search write-cases

pub returns-then-not-write_all : goal.returns-then-not-write_all
returns-then-not-write_all g c = search write-cases

pub loop-walk-smaller : goal.loop-walk-smaller
loop-walk-smaller g c = search write-cases

pub loop-walk-preserved : goal.loop-walk-preserved
loop-walk-preserved g c = search write-cases

pub returns : goal.returns
returns g c = search write-cases
