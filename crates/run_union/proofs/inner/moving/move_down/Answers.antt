-- `run_union::inner::moving::move_down` meets its contract: the words are those with the runs moved so far written.
use Rattle.model.proofs.Prelude.{refl, length-set, arith, rules}
use Rattle.run_union.proofs.CopySteps.{copy_end}
use Rattle.run_union.proofs.MoveSteps.{down-more}
use Rattle.run_union.proofs.inner.moving.move_down.Goals as goal

pub loop-k-init : goal.loop-k-init
loop-k-init c = (omega arith, refl, refl)

pub bounds-words-w-in-loop-k : goal.bounds-words-w-in-loop-k
bounds-words-w-in-loop-k c = simp length-set (omega arith)

pub loop-k-preserved : goal.loop-k-preserved
loop-k-preserved c = (omega arith, simp length-set c.loop-k.invariant.1, search (down-more, rules))

pub returns : goal.returns
returns c = search (copy_end, rules)
