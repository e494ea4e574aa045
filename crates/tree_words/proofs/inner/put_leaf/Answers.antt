-- `tree_words::inner::put_leaf` meets its contract: three words are set one after the other, each inside the words.
use Rattle.model.proofs.Prelude.{length-set, arith}
use Rattle.tree_words.proofs.inner.put_leaf.Goals as goal

pub bounds-words-at-2 : goal.bounds-words-at-2
bounds-words-at-2 c = simp length-set (omega arith)

pub bounds-words-at-3 : goal.bounds-words-at-3
bounds-words-at-3 c = simp length-set (omega arith)
