-- `tree_words::inner::put_node` meets its contract: eight words are set one after the other, each inside the words.
use Rattle.model.proofs.Prelude.{refl, length-set, arith}
use Rattle.tree_words.specs.Nodes.{put_node_of}
use Rattle.tree_words.proofs.inner.put_node.Goals as goal

pub bounds-words-at-2 : goal.bounds-words-at-2
bounds-words-at-2 c = simp length-set (omega arith)

pub bounds-words-at-3 : goal.bounds-words-at-3
bounds-words-at-3 c = simp length-set (omega arith)

pub bounds-words-at-4 : goal.bounds-words-at-4
bounds-words-at-4 c = simp length-set (omega arith)

pub bounds-words-at-5 : goal.bounds-words-at-5
bounds-words-at-5 c = simp length-set (omega arith)

pub bounds-words-at-6 : goal.bounds-words-at-6
bounds-words-at-6 c = simp length-set (omega arith)

pub bounds-words-at-7 : goal.bounds-words-at-7
bounds-words-at-7 c = simp length-set (omega arith)

pub bounds-words-at-8 : goal.bounds-words-at-8
bounds-words-at-8 c = simp length-set (omega arith)

pub returns : goal.returns
unfolding put_node_of
returns c = refl
