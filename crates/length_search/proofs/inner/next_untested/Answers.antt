-- `length_search::inner::next_untested` meets its contract: what is first from the number at hand on, with the runs that are left, is first of all.
use Rattle.length_search.proofs.RunCases.{go-cases}
use Rattle.length_search.proofs.inner.next_untested.Goals as goal

pub loop-i-init : goal.loop-i-init
loop-i-init c = search go-cases

pub overflow_mul-low : goal.overflow_mul-low
overflow_mul-low c = search go-cases

pub offset_bounds-words-i : goal.offset_bounds-words-i
offset_bounds-words-i c = search go-cases

pub bounds-words-i : goal.bounds-words-i
bounds-words-i c = search go-cases

pub overflow_mul-high : goal.overflow_mul-high
overflow_mul-high c = search go-cases

pub overflow_add-high : goal.overflow_add-high
overflow_add-high c = search go-cases

pub offset_bounds-words-i-in-loop-i : goal.offset_bounds-words-i-in-loop-i
offset_bounds-words-i-in-loop-i c = search go-cases

pub bounds-words-i-in-loop-i : goal.bounds-words-i-in-loop-i
bounds-words-i-in-loop-i c = search go-cases

pub loop-i-preserved-then-high-at : goal.loop-i-preserved-then-high-at
loop-i-preserved-then-high-at c = search go-cases

pub overflow_sub-low : goal.overflow_sub-low
overflow_sub-low c = search go-cases

pub first_between-found-requires : goal.first_between-found-requires
first_between-found-requires c = search go-cases

pub returns-then-found-ne0 : goal.returns-then-found-ne0
returns-then-found-ne0 c = search go-cases

pub overflow_add-at : goal.overflow_add-at
overflow_add-at c = search go-cases

pub loop-i-preserved : goal.loop-i-preserved
loop-i-preserved c = search go-cases

pub first_between-requires : goal.first_between-requires
first_between-requires c = search go-cases

pub returns : goal.returns
returns c = search go-cases
