-- `block_intervals::inner::sections::span_inside` meets its contract. The invariant, `SpanWalk`: the runs so far lie in held runs.
use Rattle.block_intervals.proofs.SectionCases.{span-held-cases}
use Rattle.block_intervals.proofs.inner.sections.span_inside.Goals as goal

pub loop-i-init : goal.loop-i-init
loop-i-init c = search span-held-cases

pub overflow_mul-i : goal.overflow_mul-i
overflow_mul-i c = search span-held-cases

pub offset_bounds-words-i : goal.offset_bounds-words-i
offset_bounds-words-i c = search span-held-cases

pub bounds-words-i : goal.bounds-words-i
bounds-words-i c = search span-held-cases

pub overflow_add-words : goal.overflow_add-words
overflow_add-words c = search span-held-cases

pub overflow_mul-i-in-loop-i : goal.overflow_mul-i-in-loop-i
overflow_mul-i-in-loop-i c = search span-held-cases

pub offset_bounds-words-i-in-loop-i : goal.offset_bounds-words-i-in-loop-i
offset_bounds-words-i-in-loop-i c = search span-held-cases

pub bounds-words-i-in-loop-i : goal.bounds-words-i-in-loop-i
bounds-words-i-in-loop-i c = search span-held-cases

pub overflow_add-words-in-loop-i : goal.overflow_add-words-in-loop-i
overflow_add-words-in-loop-i c = search span-held-cases

pub run_inside-requires : goal.run_inside-requires
run_inside-requires c = search span-held-cases

pub returns-then-not-run_inside : goal.returns-then-not-run_inside
returns-then-not-run_inside c = search span-held-cases

pub loop-i-preserved : goal.loop-i-preserved
loop-i-preserved c = search span-held-cases

pub returns : goal.returns
returns c = search span-held-cases
