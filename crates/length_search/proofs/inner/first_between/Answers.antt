-- `length_search::inner::first_between` meets its contract: there is none, or the search finds the first.
use Rattle.length_search.proofs.RangeCases.{range-cases}
use Rattle.length_search.proofs.inner.first_between.Goals as goal

pub returns-then-last-from : goal.returns-then-last-from
returns-then-last-from c = search range-cases

pub rank_of-before-requires : goal.rank_of-before-requires
rank_of-before-requires c = search range-cases

pub returns-then-there-before : goal.returns-then-there-before
returns-then-there-before c = search range-cases

pub find_first-requires : goal.find_first-requires
find_first-requires c = search range-cases

pub returns : goal.returns
returns c = search range-cases
