-- `block_intervals::inner::sections::run_inside` meets its contract: the run is compared with the held run at the place that was found.
use Rattle.block_intervals.proofs.SectionCases.{run-cases}
use Rattle.block_intervals.proofs.inner.sections.run_inside.Goals as goal

pub first_reaching-at-requires : goal.first_reaching-at-requires
first_reaching-at-requires c = search run-cases

pub returns-then-held-at : goal.returns-then-held-at
returns-then-held-at c = search run-cases

pub overflow_mul-at : goal.overflow_mul-at
overflow_mul-at c = search run-cases

pub offset_bounds-held-at : goal.offset_bounds-held-at
offset_bounds-held-at c = search run-cases

pub bounds-held-at : goal.bounds-held-at
bounds-held-at c = search run-cases

pub returns-then-low-held : goal.returns-then-low-held
returns-then-low-held c = search run-cases

pub overflow_mul-result : goal.overflow_mul-result
overflow_mul-result c = search run-cases

pub overflow_add-result : goal.overflow_add-result
overflow_add-result c = search run-cases

pub offset_bounds-held-at-2 : goal.offset_bounds-held-at-2
offset_bounds-held-at-2 c = search run-cases

pub bounds-held-at-2 : goal.bounds-held-at-2
bounds-held-at-2 c = search run-cases

pub returns : goal.returns
returns c = search run-cases
