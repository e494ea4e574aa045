-- `block_words::inner::robust::active_words` meets its contract. The loop's invariant: the words of the pins from k on are right, and so are their sums.
use Rattle.model.specs.Read.{class_of}
use Rattle.block_words.proofs.ActiveCases.{ActiveFrom}
use Rattle.block_words.proofs.inner.robust.active_words.Given as goal

abbrev pub invariant-loop-k : goal.invariant-loop-k
invariant-loop-k l =
    ActiveFrom (class_of l.class) l.table l.gate l.scan l.words l.k l.rising_rows l.falling_rows l.up l.down
