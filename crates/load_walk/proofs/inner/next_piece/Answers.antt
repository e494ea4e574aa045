-- `load_walk::inner::next_piece` meets its contract: as many vectors as are left, or as the buffer's length divided by the size of one vector's records.
use Rattle.load_walk.proofs.WalkCases.{piece-cases}
use Rattle.load_walk.proofs.inner.next_piece.Goals as goal

pub put_vectors-after-requires : goal.put_vectors-after-requires
put_vectors-after-requires c = search piece-cases

pub overflow_sub-result : goal.overflow_sub-result
overflow_sub-result c = search piece-cases

pub overflow_mul-result : goal.overflow_mul-result
overflow_mul-result c = search piece-cases

pub returns : goal.returns
returns c = search piece-cases
