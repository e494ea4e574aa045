-- `length_coverage::counting::rows_by_net` meets its contract: the paths' row adds up to T, or one path is too long; the held rows are those of the runs.
use Rattle.model.proofs.Prelude.{rules}
use Rattle.model.specs.Path.{rising, falling}
use Rattle.length_coverage.proofs.CountingCases.{total-ranked, edge-ranked, paths-long, paths-fit, one-too_long, all-counted}
use Rattle.length_coverage.proofs.counting.rows_by_net.Goals as goal

pub rank_row-paths-requires : goal.rank_row-paths-requires
rank_row-paths-requires c = search (total-ranked, rules)

pub row_sum-short-requires : goal.row_sum-short-requires
row_sum-short-requires c =
    (paths-long c.requires c.rank_row-paths.ensures, paths-fit c.requires c.rank_row-paths.ensures)

pub returns-then-short-total : goal.returns-then-short-total
returns-then-short-total c =
    one-too_long c.requires c.rank_row-paths.ensures c.row_sum-short.ensures c.if-short-total.true

pub held_row-rising-requires : goal.held_row-rising-requires
held_row-rising-requires c =
    edge-ranked c.requires rising _ c.edge_runs-up.ensures

pub held_row-falling-requires : goal.held_row-falling-requires
held_row-falling-requires c =
    edge-ranked c.requires falling _ c.edge_runs-down.ensures

pub returns : goal.returns
returns c =
    all-counted c.requires c.rank_row-paths.ensures c.row_sum-short.ensures c.if-short-total.false c.edge_runs-up.ensures c.edge_runs-down.ensures
    c.held_row-rising.ensures c.held_row-falling.ensures
