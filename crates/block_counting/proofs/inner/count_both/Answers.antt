-- `block_counting::inner::count_both` meets its contract: a stage that keeps the runs leaves the totals of before, another is counted again.
use Rattle.model.proofs.Prelude.{◌∙◌, sym}
use Rattle.block_counting.proofs.CountBothLaws.{some-made, counted-kept, counted-some, counted-again}
use Rattle.block_counting.proofs.inner.count_both.Goals as goal

pub write_both-stage-requires : goal.write_both-stage-requires
write_both-stage-requires c = some-made c.requires

pub returns-then-keeps_both : goal.returns-then-keeps_both
returns-then-keeps_both c =
    let keeps = sym c.if-keeps_both.true ∙ c.keeps_both.ensures in
    let writes = c.write_both-stage.ensures in
    λ N t found k. counted-kept writes k keeps c.count_kept.ensures

pub count_answer-requires : goal.count_answer-requires
count_answer-requires c =
    counted-some c.write_both-stage.ensures c.requires

pub returns : goal.returns
returns c =
    counted-again c.write_both-stage.ensures c.count_answer.ensures
