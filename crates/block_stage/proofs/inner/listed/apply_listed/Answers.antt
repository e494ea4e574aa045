-- `block_stage::inner::listed::apply_listed` meets its contract: what was made of both edges is written to the store, and the sections are found anew.
use Rattle.block_stage.proofs.RecordEdgeLaws.{listed-inputs, listed-writes, listed-written, listed-few}
use Rattle.block_stage.proofs.inner.listed.apply_listed.Goals as goal

pub write_both-stage-requires : goal.write_both-stage-requires
write_both-stage-requires c =
    let covers = c.cover_listed-answer in
    listed-writes covers.auto.words covers.ensures.1 c.requires

pub renew_sections-requires : goal.renew_sections-requires
renew_sections-requires c =
    let covers = c.cover_listed-answer in
    (listed-few covers.auto.words covers.ensures.1 c.write_both-stage.ensures c.requires, covers.ensures.0.room)

pub returns : goal.returns
returns c =
    let covers = c.cover_listed-answer in (
      c.renew_sections.ensures _ (listed-inputs c.requires) covers.ensures.0,
      listed-written covers.auto.words covers.ensures.1 c.write_both-stage.ensures,
    )
