-- `single_stage::inner::work_on` meets its contract: what was made of both edges is written to the store.
use Rattle.model.proofs.Prelude.{rules}
use Rattle.single_stage.proofs.BothEdgeLaws.{work-writes, work-written}
use Rattle.single_stage.proofs.inner.work_on.Goals as goal

pub write_both-requires : goal.write_both-requires
write_both-requires c = search (work-writes, rules)

pub returns : goal.returns
returns c =
    let covers = c.cover_both-answer in
    let ready = c.requires in
    work-written ready covers.auto.words covers.ensures c.write_both.ensures
