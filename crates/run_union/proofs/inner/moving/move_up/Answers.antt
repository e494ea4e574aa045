-- `run_union::inner::moving::move_up` meets its contract: the words are those with the runs from the last down to this one written.
use Rattle.model.proofs.Prelude.{length-set, arith, rules}
use Rattle.run_union.proofs.MoveSteps.{up_start, up_more, up-end}
use Rattle.run_union.proofs.inner.moving.move_up.Goals as goal

pub loop-k-init : goal.loop-k-init
loop-k-init c = up_start _ _ _ _

pub bounds-words-w-in-loop-k : goal.bounds-words-w-in-loop-k
bounds-words-w-in-loop-k c = simp length-set (omega arith)

pub loop-k-preserved : goal.loop-k-preserved
loop-k-preserved c =
    let start = c.before in
    let at-run = c.loop-k in
    up_more at-run.invariant start.requires.0 _ (omega arith)

pub returns : goal.returns
returns c = search (up-end, rules)
