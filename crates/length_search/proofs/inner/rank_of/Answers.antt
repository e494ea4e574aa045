-- `length_search::inner::rank_of` meets its contract: one number of the row.
use Rattle.length_search.proofs.FindCases.{rank-cases}
use Rattle.length_search.proofs.inner.rank_of.Goals as goal

pub returns : goal.returns
returns c = search rank-cases
