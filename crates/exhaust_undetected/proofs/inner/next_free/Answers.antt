-- `exhaust_undetected::inner::next_free` meets its contract: what is first from the run at hand on is first of all runs.
use Rattle.exhaust_undetected.proofs.FreeLaws.{walk-cases}
use Rattle.exhaust_undetected.proofs.inner.next_free.Goals as goal

pub loop-i-init : goal.loop-i-init
loop-i-init c = search walk-cases

pub overflow_mul-i : goal.overflow_mul-i
overflow_mul-i c = search walk-cases

pub offset_bounds-words-i : goal.offset_bounds-words-i
offset_bounds-words-i c = search walk-cases

pub bounds-words-i : goal.bounds-words-i
bounds-words-i c = search walk-cases

pub overflow_mul-i-then-x-words : goal.overflow_mul-i-then-x-words
overflow_mul-i-then-x-words c = search walk-cases

pub offset_bounds-words-i-then-x-words : goal.offset_bounds-words-i-then-x-words
offset_bounds-words-i-then-x-words c = search walk-cases

pub bounds-words-i-then-x-words : goal.bounds-words-i-then-x-words
bounds-words-i-then-x-words c = search walk-cases

pub overflow_mul-result : goal.overflow_mul-result
overflow_mul-result c = search walk-cases

pub overflow_add-result : goal.overflow_add-result
overflow_add-result c = search walk-cases

pub offset_bounds-words-i-then-words-i : goal.offset_bounds-words-i-then-words-i
offset_bounds-words-i-then-words-i c = search walk-cases

pub bounds-words-i-then-words-i : goal.bounds-words-i-then-words-i
bounds-words-i-then-words-i c = search walk-cases

pub overflow_add-result-then-words-i : goal.overflow_add-result-then-words-i
overflow_add-result-then-words-i c = search walk-cases

pub returns-then-words-i : goal.returns-then-words-i
returns-then-words-i c = search walk-cases

pub returns-then-x-words : goal.returns-then-x-words
returns-then-x-words c = search walk-cases

pub loop-i-preserved : goal.loop-i-preserved
loop-i-preserved c = search walk-cases

pub returns : goal.returns
returns c = search walk-cases
