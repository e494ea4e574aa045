-- `tree_filling::filling::fill` meets its contract. The invariant, `FillingTree`: the leaves are the first i runs.
use Rattle.model.proofs.Prelude.{rules}
use Rattle.tree_filling.proofs.FillSteps.{fill_start, fill_inserts, fill_next, fill_done}
use Rattle.tree_filling.proofs.filling.fill.Goals as goal

pub loop-i-init : goal.loop-i-init
loop-i-init c =
    let at-empty = c.before in
    let at-start = at-empty.before.before.before.before in
    fill_start _ _ _ _ at-start.requires at-empty.tree_empty.ensures.words

pub insert_run-requires : goal.insert_run-requires
insert_run-requires c = search (fill_inserts, rules)

pub loop-i-preserved : goal.loop-i-preserved
loop-i-preserved c = search (fill_next, rules)

pub returns : goal.returns
returns c = search (fill_done, rules)
