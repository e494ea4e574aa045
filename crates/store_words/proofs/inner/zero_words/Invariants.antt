-- `store_words::inner::zero_words` meets its contract: the words are all zero as the bits seen and the words that are left are.
use Rattle.model.proofs.Prelude.{◌+◌, ◌-◌, ◌*◌, ◌≡◌, ◌&&◌, eqb}
use Rattle.store_words.specs.WordAnswers.{zero_words_of, row_words}
use Rattle.store_words.proofs.inner.zero_words.Given as goal

abbrev pub invariant-loop-row : goal.invariant-loop-row
invariant-loop-row l =
    (eqb l.seen 0 && zero_words_of l.words (l.at + 1 + row_words * l.row) (l.n - 1 - row_words * l.row)) ≡ zero_words_of l.words l.at l.n
