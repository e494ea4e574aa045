-- `block_intervals::inner::sections::clear_sections` meets its contract. The invariant, `Cleared`: the places so far hold 0.
use Rattle.block_intervals.proofs.SectionLaws.{clear-cases}
use Rattle.block_intervals.proofs.inner.sections.clear_sections.Goals as goal

pub loop-o-init : goal.loop-o-init
loop-o-init c = search clear-cases

pub overflow_add-spans : goal.overflow_add-spans
overflow_add-spans c = search clear-cases

pub offset_bounds-spans-o : goal.offset_bounds-spans-o
offset_bounds-spans-o c = search clear-cases

pub bounds-spans-o : goal.bounds-spans-o
bounds-spans-o c = search clear-cases

pub loop-o-preserved : goal.loop-o-preserved
loop-o-preserved c = search clear-cases

pub returns : goal.returns
returns c = search clear-cases
