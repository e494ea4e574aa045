-- `tree::asking::search_runs` meets its contract: an overlapping run comes before an adjacent one.
use Rattle.model.proofs.Prelude.{rules}
use Rattle.tree_lookup.proofs.LookupCases.{found_inside}
use Rattle.tree.proofs.SearchCases.{search_over, search_near, search_none}
use Rattle.tree.proofs.asking.search_runs.Goals as goal

pub run_at-requires : goal.run_at-requires
run_at-requires c = search (found_inside, rules)

pub returns-then-over-ne0 : goal.returns-then-over-ne0
returns-then-over-ne0 c = search (search_over, rules)

pub run_at-requires-then-near-ne0 : goal.run_at-requires-then-near-ne0
run_at-requires-then-near-ne0 c = search (found_inside, rules)

pub returns-then-near-ne0 : goal.returns-then-near-ne0
returns-then-near-ne0 c = search (search_near, rules)

pub returns : goal.returns
returns c = search (search_none, rules)
