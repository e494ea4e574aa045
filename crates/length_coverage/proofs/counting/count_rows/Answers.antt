-- `length_coverage::counting::count_rows` meets its contract: the rows of the nets, then the rows from them.
use Rattle.model.proofs.Prelude.{refl}
use Rattle.length_coverage.proofs.CountingCases.{some-circuit, rows-known}
use Rattle.length_coverage.proofs.counting.count_rows.Goals as goal

pub fill_rows-requires : goal.fill_rows-requires
fill_rows-requires c = (some-circuit c.requires, refl)

pub rows_by_net-requires : goal.rows_by_net-requires
rows_by_net-requires c =
    rows-known c.requires c.fill_rows.ensures
