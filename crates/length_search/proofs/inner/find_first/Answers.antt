-- `length_search::inner::find_first` meets its contract: the two numbers draw together, with the first path of the length between them.
use Rattle.length_search.proofs.FindCases.{find_cases}
use Rattle.length_search.proofs.inner.find_first.Goals as goal

pub rank_of-before-requires : goal.rank_of-before-requires
rank_of-before-requires c = search find_cases

pub loop-over-init : goal.loop-over-init
loop-over-init c = search find_cases

pub overflow_sub-over : goal.overflow_sub-over
overflow_sub-over c = search find_cases

pub overflow_sub-middle : goal.overflow_sub-middle
overflow_sub-middle c = search find_cases

pub overflow_add-middle : goal.overflow_add-middle
overflow_add-middle c = search find_cases

pub rank_of-there-requires : goal.rank_of-there-requires
rank_of-there-requires c = search find_cases

pub loop-over-smaller-then-before-there : goal.loop-over-smaller-then-before-there
loop-over-smaller-then-before-there c = search find_cases

pub loop-over-preserved-then-before-there : goal.loop-over-preserved-then-before-there
loop-over-preserved-then-before-there c = search find_cases

pub loop-over-smaller : goal.loop-over-smaller
loop-over-smaller c = search find_cases

pub loop-over-preserved : goal.loop-over-preserved
loop-over-preserved c = search find_cases

pub returns : goal.returns
returns c = search find_cases
