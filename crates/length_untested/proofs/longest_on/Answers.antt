-- `length_untested::longest_on` meets its contract: the rows of the nets and the runs of the edge are handed on.
use Rattle.model.proofs.Prelude.{rules}
use Rattle.length_untested.proofs.LongestCases.{on-circuit, on-few, on-ready, on-found}
use Rattle.length_untested.proofs.longest_on.Goals as goal

pub fill_rows-requires : goal.fill_rows-requires
fill_rows-requires c = search (on-circuit, on-few, on-ready, on-found, rules)

pub longest_rows-requires : goal.longest_rows-requires
longest_rows-requires c = search (on-circuit, on-few, on-ready, on-found, rules)

pub returns : goal.returns
returns c =
    on-found c.requires _ c.fill_rows.ensures _ _ c.edge_runs-words.ensures c.longest_rows.result c.longest_rows.ensures
