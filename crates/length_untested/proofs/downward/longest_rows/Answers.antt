-- `length_untested::downward::longest_rows` meets its contract: one path is too long, or the search.
use Rattle.length_untested.proofs.DownCases.{all-cases}
use Rattle.length_untested.proofs.downward.longest_rows.Goals as goal

pub rank_row-paths-requires : goal.rank_row-paths-requires
rank_row-paths-requires c = search all-cases

pub row_sum-short-requires : goal.row_sum-short-requires
row_sum-short-requires c = search all-cases

pub returns-then-short-wanted : goal.returns-then-short-wanted
returns-then-short-wanted c = search all-cases

pub returns : goal.returns
returns c = search all-cases
