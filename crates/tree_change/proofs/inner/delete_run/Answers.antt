-- `tree_change::inner::delete_run` meets its contract: room is made first, which leaves the runs.
use Rattle.tree_change.proofs.ChangeCases.{delete_asks, delete_done}
use Rattle.tree_change.proofs.inner.delete_run.Goals as goal

pub take_between-requires : goal.take_between-requires
take_between-requires c =
    let m3 = c.before in
    delete_asks m3.before.before.before.requires m3.compact.ensures

pub returns : goal.returns
returns c =
    let m2 = c.before in
    let m6 = m2.before.before.before.before in
    delete_done m6.before.before.before.requires m6.compact.ensures m2.take_between.ensures
