-- `block_intervals::inner::input_spans` meets its contract. The loop's invariant: the spans of the inputs so far are written.
use Rattle.block_intervals.proofs.InputSpanCases.{input-span-cases}
use Rattle.block_intervals.proofs.inner.input_spans.Goals as goal

pub clear_sections-requires : goal.clear_sections-requires
clear_sections-requires c = search input-span-cases

pub loop-input-init : goal.loop-input-init
loop-input-init c = search input-span-cases

pub offset_bounds-spans-input : goal.offset_bounds-spans-input
offset_bounds-spans-input c = search input-span-cases

pub bounds-spans-input : goal.bounds-spans-input
bounds-spans-input c = search input-span-cases

pub overflow_add-spans : goal.overflow_add-spans
overflow_add-spans c = search input-span-cases

pub offset_bounds-spans-input-in-loop-input : goal.offset_bounds-spans-input-in-loop-input
offset_bounds-spans-input-in-loop-input c = search input-span-cases

pub bounds-spans-input-in-loop-input : goal.bounds-spans-input-in-loop-input
bounds-spans-input-in-loop-input c = search input-span-cases

pub overflow_add-spans-in-loop-input : goal.overflow_add-spans-in-loop-input
overflow_add-spans-in-loop-input c = search input-span-cases

pub offset_bounds-spans-input-in-loop-input-2 : goal.offset_bounds-spans-input-in-loop-input-2
offset_bounds-spans-input-in-loop-input-2 c = search input-span-cases

pub bounds-spans-input-in-loop-input-2 : goal.bounds-spans-input-in-loop-input-2
bounds-spans-input-in-loop-input-2 c = search input-span-cases

pub loop-input-preserved : goal.loop-input-preserved
loop-input-preserved c = search input-span-cases

pub returns : goal.returns
returns c = search input-span-cases
