-- `length_coverage::held::held_row` meets its contract: what is added so far, with what the runs that are left hold, is the whole.
use Rattle.model.proofs.Prelude.{◌-◌}
use Rattle.length_coverage.proofs.HeldCases.{held-cases, held-end}
use Rattle.length_coverage.proofs.inner.held.held_row.Goals as goal

pub loop-i-init : goal.loop-i-init
loop-i-init c = search held-cases

pub overflow_mul-i : goal.overflow_mul-i
overflow_mul-i c = search held-cases

pub offset_bounds-words-i : goal.offset_bounds-words-i
offset_bounds-words-i c = search held-cases

pub bounds-words-i : goal.bounds-words-i
bounds-words-i c = search held-cases

pub overflow_mul-i-in-loop-i : goal.overflow_mul-i-in-loop-i
overflow_mul-i-in-loop-i c = search held-cases

pub offset_bounds-words-i-in-loop-i : goal.offset_bounds-words-i-in-loop-i
offset_bounds-words-i-in-loop-i c = search held-cases

pub bounds-words-i-in-loop-i : goal.bounds-words-i-in-loop-i
bounds-words-i-in-loop-i c = search held-cases

pub add_run-requires : goal.add_run-requires
add_run-requires c = search held-cases

pub loop-i-preserved : goal.loop-i-preserved
loop-i-preserved c = search held-cases

pub returns : goal.returns
returns c = held-end c.loop-i.invariant c.loop-i-test.false
