-- `store_words::inner::row_bits` meets its contract: the words are all zero as the bits seen and the words that are left of the row are.
use Rattle.model.proofs.Prelude.{◌≤◌, ◌+◌, ◌-◌, ◌≡◌, ◌&&◌, eqb}
use Rattle.store_words.specs.WordAnswers.{zero_words_of, row_words}
use Rattle.store_words.proofs.inner.row_bits.Given as goal

abbrev pub invariant-loop-i : goal.invariant-loop-i
invariant-loop-i l = (l.i ≤ row_words) × ((eqb l.seen 0 && zero_words_of l.words (l.at + l.i) (row_words - l.i)) ≡ zero_words_of l.words l.at row_words)
