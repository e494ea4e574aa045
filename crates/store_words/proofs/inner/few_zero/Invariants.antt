-- `store_words::inner::few_zero` meets its contract: the words are all zero as the bits seen and the words that are left are.
use Rattle.model.proofs.Prelude.{◌+◌, ◌-◌, ◌≡◌, ◌&&◌, eqb}
use Rattle.store_words.specs.WordAnswers.{zero_words_of}
use Rattle.store_words.proofs.inner.few_zero.Given as goal

abbrev pub invariant-loop-place : goal.invariant-loop-place
invariant-loop-place l = (eqb l.seen 0 && zero_words_of l.words l.place (l.at + l.n - l.place)) ≡ zero_words_of l.words l.at l.n
