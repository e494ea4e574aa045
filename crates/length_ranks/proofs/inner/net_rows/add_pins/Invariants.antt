-- `length_ranks::inner::net_rows::add_pins` meets its contract: the rows of the pins before the one at hand are added.
use Rattle.model.proofs.Prelude.{◌≤◌, ◌-◌, ◌≡◌}
use Rattle.length_rows.specs.RowSums.{added, longer}
use Rattle.length_ranks.specs.NetRows.{pin_sums_before}
use Rattle.length_ranks.proofs.inner.net_rows.add_pins.Given as goal

abbrev pub invariant-loop-pin : goal.invariant-loop-pin
invariant-loop-pin l = (l.pin ≤ l.pins) × (l.sums ≡ added l.initial.sums (longer l.by (pin_sums_before l.part l.rows l.pin)))
