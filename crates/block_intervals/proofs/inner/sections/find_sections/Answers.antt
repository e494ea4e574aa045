-- `block_intervals::inner::sections::find_sections` meets its contract. The invariant, `Finding`: the sections so far ascend, and nothing else has changed since the word
-- after them was written.
use Rattle.block_intervals.proofs.SectionLaws.{find_cases}
use Rattle.block_intervals.proofs.inner.sections.find_sections.Goals as goal

pub whole_outputs-requires : goal.whole_outputs-requires
whole_outputs-requires c = search find_cases

pub overflow_add-spans : goal.overflow_add-spans
overflow_add-spans c = search find_cases

pub offset_bounds-spans-base : goal.offset_bounds-spans-base
offset_bounds-spans-base c = search find_cases

pub bounds-spans-base : goal.bounds-spans-base
bounds-spans-base c = search find_cases

pub loop-output-init : goal.loop-output-init
loop-output-init c = search find_cases

pub section_begin-at-requires : goal.section_begin-at-requires
section_begin-at-requires c = search find_cases

pub overflow_add-spans-in-loop-output : goal.overflow_add-spans-in-loop-output
overflow_add-spans-in-loop-output c = search find_cases

pub offset_bounds-spans-base-in-loop-output : goal.offset_bounds-spans-base-in-loop-output
offset_bounds-spans-base-in-loop-output c = search find_cases

pub bounds-spans-base-in-loop-output : goal.bounds-spans-base-in-loop-output
bounds-spans-base-in-loop-output c = search find_cases

pub loop-output-preserved : goal.loop-output-preserved
loop-output-preserved c = search find_cases

pub overflow_add-spans-2 : goal.overflow_add-spans-2
overflow_add-spans-2 c = search find_cases

pub offset_bounds-spans-base-2 : goal.offset_bounds-spans-base-2
offset_bounds-spans-base-2 c = search find_cases

pub bounds-spans-base-2 : goal.bounds-spans-base-2
bounds-spans-base-2 c = search find_cases

pub returns : goal.returns
returns c = (search find_cases, search find_cases)
