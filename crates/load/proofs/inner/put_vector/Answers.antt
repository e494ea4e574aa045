-- `load::inner::put_vector` meets its contract. The invariant: what is written, and the records of the inputs that are left, written from here on, give
-- the whole.
use Rattle.model.proofs.Prelude.{rules}
use Rattle.model.proofs.Prelude.{◌∙◌}
use Rattle.load.proofs.VectorSteps.{write_last, write_next, write-cases}
use Rattle.load.proofs.inner.put_vector.Goals as goal

pub loop-input-init : goal.loop-input-init
loop-input-init c = search write-cases

pub overflow_add-high : goal.overflow_add-high
overflow_add-high c = search write-cases

pub put_test-requires : goal.put_test-requires
put_test-requires c = search write-cases

pub overflow_add-place : goal.overflow_add-place
overflow_add-place c = search write-cases

pub put_test-requires-in-loop-input : goal.put_test-requires-in-loop-input
put_test-requires-in-loop-input c = search write-cases

pub overflow_add-place-in-loop-input : goal.overflow_add-place-in-loop-input
overflow_add-place-in-loop-input c = search write-cases

pub returns-clause-records_after : goal.returns-clause-records_after
returns-clause-records_after c = search (write_last, write_next, write-cases, rules)

pub loop-input-preserved : goal.loop-input-preserved
loop-input-preserved c =
    let a = c.args in
    let l = c.loop-input in
    write_next a.inputs a.state c.vector_bytes-bytes.result a.at a.records.now l.records l.place l.input l.invariant
    c.requires.0 c.vector_bytes-bytes.ensures.0 c.loop-input-test.true c.draw_vector-drawn.result c.draw_vector-drawn.ensures
    c.lowered-low.result c.weight-bit.result c.weight-bit.ensures c.lowered-low.ensures _ _ c.put_test.ensures c.put_test-in-loop-input.ensures
    (c.put_test-in-loop-input.auto.records ∙ c.put_test.auto.records)
