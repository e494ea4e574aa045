-- `tree_compaction::inner::put_head` meets its contract: three words are set one after the other.
use Rattle.model.proofs.Prelude.{refl, length-set, arith}
use Rattle.tree_compaction.specs.Compaction.{put_head_of}
use Rattle.tree_compaction.proofs.inner.put_head.Goals as goal

pub bounds-words-1 : goal.bounds-words-1
bounds-words-1 c = simp length-set (omega arith)

pub returns : goal.returns
unfolding put_head_of
returns c = refl
