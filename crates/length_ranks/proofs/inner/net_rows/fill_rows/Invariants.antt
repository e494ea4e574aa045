-- `length_ranks::inner::net_rows::fill_rows` meets its contract: the rows of the nets before the one at hand stand in the table.
use Rattle.model.proofs.Prelude.{◌-◌, ◌≡◌}
use Rattle.length_ranks.specs.NetRows.{RowsBefore}
use Rattle.length_ranks.proofs.inner.net_rows.fill_rows.Given as goal

abbrev pub invariant-loop-net : goal.invariant-loop-net
invariant-loop-net l = (l.nets ≡ l.shape.nets) × RowsBefore l.netlist l.positions l.shape l.net l.rows
