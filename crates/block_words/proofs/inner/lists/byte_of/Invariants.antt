-- `block_words::inner::lists::byte_of` meets its contract. The loop's invariant: the pins from k on are packed, pin k in the lowest bit. Two pins want no loop.
use Rattle.block_words.proofs.PackCases.{Packing}
use Rattle.block_words.proofs.inner.lists.byte_of.Given as goal

abbrev pub invariant-loop-k : goal.invariant-loop-k
invariant-loop-k l = Packing l.rows l.pins l.place l.byte l.k
