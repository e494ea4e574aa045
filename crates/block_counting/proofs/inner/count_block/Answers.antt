-- `block_counting::inner::count_block` meets its contract. The invariant, `CountingBlock`: the answers of the tests before test t, on the store after them.
use Rattle.model.proofs.Prelude.{refl, arith}
use Rattle.block_stage.proofs.BlockSteps.{block_in, block-begun, block-inputs, block-few, up-inside, down-inside}
use Rattle.block_stage.proofs.RecordEdgeLaws.{listed-inputs}
use Rattle.block_counting.proofs.CountSteps.{block-sound, counting-start, some-handed, some-counted, counting-next, counted-kept-memory, counted-all, counted-few}
use Rattle.block_counting.proofs.inner.count_block.Goals as goal

pub begin_spans-requires : goal.begin_spans-requires
begin_spans-requires c = (block-inputs (block-begun c.requires), block-few c.requires, refl)

pub totals_of-held-requires : goal.totals_of-held-requires
totals_of-held-requires c =
    block-sound c.requires

pub loop-t-init : goal.loop-t-init
loop-t-init c =
    counting-start c.requires c.begin_spans.ensures refl c.totals_of-held.ensures

pub overflow_add-up-in-loop-t : goal.overflow_add-up-in-loop-t
overflow_add-up-in-loop-t c =
    omega (arith, up-inside c.loop-t.invariant.block c.loop-t-test.true, c.well_formed.1.1.0.0)

pub slice_bounds-up-end : goal.slice_bounds-up-end
slice_bounds-up-end c = up-inside c.loop-t.invariant.block c.loop-t-test.true

pub overflow_add-down-in-loop-t : goal.overflow_add-down-in-loop-t
overflow_add-down-in-loop-t c =
    omega (arith, down-inside c.loop-t.invariant.block c.loop-t-test.true, c.well_formed.1.1.1.0.0)

pub slice_bounds-down-end : goal.slice_bounds-down-end
slice_bounds-down-end c =
    down-inside c.loop-t.invariant.block c.loop-t-test.true

pub cover_listed-made-requires : goal.cover_listed-made-requires
cover_listed-made-requires c =
    some-handed c.loop-t.invariant c.loop-t-test.true c.edges_at-edges.ensures

pub count_both-answer-requires : goal.count_both-answer-requires
count_both-answer-requires c =
    let made = c.cover_listed-made in
    some-counted c.loop-t.invariant c.loop-t-test.true c.edges_at-edges.ensures made.auto.words made.ensures.1

pub put_answer-requires : goal.put_answer-requires
put_answer-requires c =
    let so_far = c.loop-t.invariant in
    (omega (arith, c.loop-t-test.true, so_far.few), so_far.room)

pub renew_sections-requires : goal.renew_sections-requires
renew_sections-requires c =
    let made = c.cover_listed-made in
    let next = counting-next c.loop-t.invariant c.loop-t-test.true c.edges_at-edges.ensures made.auto.words made.ensures.1
    c.count_both-answer.ensures c.answer_words.ensures c.totals_after-held.ensures c.put_answer.ensures made.ensures.0 in
    (counted-few next, made.ensures.0.room)

pub loop-t-preserved : goal.loop-t-preserved
loop-t-preserved c =
    let made = c.cover_listed-made in
    counting-next c.loop-t.invariant c.loop-t-test.true c.edges_at-edges.ensures made.auto.words made.ensures.1
    c.count_both-answer.ensures c.answer_words.ensures c.totals_after-held.ensures c.put_answer.ensures
    (c.renew_sections.ensures _ (listed-inputs (some-handed c.loop-t.invariant c.loop-t-test.true c.edges_at-edges.ensures)) made.ensures.0)

pub returns : goal.returns
returns c =
    let so_far = c.loop-t.invariant in
    (counted-kept-memory so_far, λ N tests b m. counted-all so_far c.loop-t-test.false N tests (block_in b m))
