-- `block_stage::inner::apply_block` meets its contract. The invariant, `Applying`: the tests that are left, from the store so far, give the whole.
use Rattle.model.proofs.Prelude.{refl, arith}
use Rattle.block_stage.proofs.BlockSteps.{block_in, block-begun, block-inputs, ended-kept, ended, up-inside, down-inside, some-listed, refused-kept, refused-here}
use Rattle.block_stage.proofs.BlockSteps.{record_taken, block-few, block-cases}
use Rattle.block_stage.proofs.inner.apply_block.Goals as goal

pub begin_spans-requires : goal.begin_spans-requires
begin_spans-requires c = (block-inputs (block-begun c.requires), block-few c.requires, refl)

pub loop-t-init : goal.loop-t-init
loop-t-init c = search block-cases

pub overflow_add-up-in-loop-t : goal.overflow_add-up-in-loop-t
overflow_add-up-in-loop-t c =
    omega (arith, up-inside c.loop-t.invariant.block c.loop-t-test.true, c.well_formed.1.1.0.0)

pub slice_bounds-up-end : goal.slice_bounds-up-end
slice_bounds-up-end c = up-inside c.loop-t.invariant.block c.loop-t-test.true

pub overflow_add-down-in-loop-t : goal.overflow_add-down-in-loop-t
overflow_add-down-in-loop-t c =
    omega (arith, down-inside c.loop-t.invariant.block c.loop-t-test.true, c.well_formed.1.1.1.0.0)

pub slice_bounds-down-end : goal.slice_bounds-down-end
slice_bounds-down-end c =
    down-inside c.loop-t.invariant.block c.loop-t-test.true

pub apply_listed-stage-requires : goal.apply_listed-stage-requires
apply_listed-stage-requires c =
    some-listed c.loop-t.invariant c.loop-t-test.true c.edges_at-edges.ensures

pub returns-in-Err : goal.returns-in-Err
returns-in-Err c =
    let why = c.in-Err.is in
    let stage = c.apply_listed-stage in
    let edges = c.edges_at-edges.ensures in
    let more = c.loop-t-test.true in
    let so_far = c.loop-t.invariant in
    (refused-kept so_far more edges stage.ensures.1 why, λ N tests b m. refused-here so_far more edges stage.ensures.1 why N tests (block_in b m))

pub loop-t-preserved : goal.loop-t-preserved
loop-t-preserved c =
    let stage = c.apply_listed-stage.ensures in
    record_taken c.loop-t.invariant c.loop-t-test.true c.edges_at-edges.ensures stage.1 c.in-Ok.is stage.0

pub returns : goal.returns
returns c =
    let so_far = c.loop-t.invariant in
    (ended-kept so_far, λ N tests b m. ended so_far c.loop-t-test.false N tests (block_in b m))
