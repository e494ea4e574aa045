-- `block_intervals::inner::sections::outputs_inside` meets its contract. The invariant, `HeldSoFar`: the runs of the outputs that are not left lie in held runs.
use Rattle.block_intervals.proofs.SectionCases.{held-cases}
use Rattle.block_intervals.proofs.inner.sections.outputs_inside.Goals as goal

pub overflow_add-base : goal.overflow_add-base
overflow_add-base c = search held-cases

pub offset_bounds-spans-base : goal.offset_bounds-spans-base
offset_bounds-spans-base c = search held-cases

pub bounds-spans-base : goal.bounds-spans-base
bounds-spans-base c = search held-cases

pub returns-then-held-spans : goal.returns-then-held-spans
returns-then-held-spans c = search held-cases

pub overflow_add-base-2 : goal.overflow_add-base-2
overflow_add-base-2 c = search held-cases

pub offset_bounds-spans-base-2 : goal.offset_bounds-spans-base-2
offset_bounds-spans-base-2 c = search held-cases

pub bounds-spans-base-2 : goal.bounds-spans-base-2
bounds-spans-base-2 c = search held-cases

pub past_whole-left-requires : goal.past_whole-left-requires
past_whole-left-requires c = search held-cases

pub loop-left-init : goal.loop-left-init
loop-left-init c = search held-cases

pub overflow_cast-output : goal.overflow_cast-output
overflow_cast-output c = search held-cases

pub output_inside-requires : goal.output_inside-requires
output_inside-requires c = record {
  output_bound = (search held-cases, search held-cases, search held-cases);
  output_ready = (search held-cases, search held-cases);
}

pub returns-then-not-output_inside : goal.returns-then-not-output_inside
returns-then-not-output_inside c = search held-cases

pub overflow_sub-left : goal.overflow_sub-left
overflow_sub-left c = search held-cases

pub loop-left-smaller : goal.loop-left-smaller
loop-left-smaller c = search held-cases

pub loop-left-preserved : goal.loop-left-preserved
loop-left-preserved c = search held-cases

pub returns : goal.returns
returns c = search held-cases
