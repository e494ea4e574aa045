-- `run_union::inner::copy` meets its contract: the words are those with the runs copied so far written.
use Rattle.model.proofs.Prelude.{refl, length-set, arith, rules}
use Rattle.run_union.proofs.CopySteps.{copy_more, copy_end}
use Rattle.run_union.proofs.inner.copy.Goals as goal

pub loop-k-init : goal.loop-k-init
loop-k-init c = (omega arith, refl, refl)

pub bounds-words-w-in-loop-k : goal.bounds-words-w-in-loop-k
bounds-words-w-in-loop-k c = simp length-set (omega arith)

pub loop-k-preserved : goal.loop-k-preserved
loop-k-preserved c = (omega arith, simp length-set c.loop-k.invariant.1, search copy_more)

pub shape_of-words : goal.shape_of-words
shape_of-words c = c.loop-k.invariant.1

pub returns : goal.returns
returns c = search (copy_end, rules)
