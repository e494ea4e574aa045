-- `length_ranks::inner::net_rows::net_row` meets its contract: an input has one partial path of no gates, a gate's net those of its pins with one
-- gate more.
use Rattle.length_ranks.proofs.NetRowLaws.{net-row-cases}
use Rattle.length_ranks.proofs.inner.net_rows.net_row.Goals as goal

pub returns-then-net-shape : goal.returns-then-net-shape
returns-then-net-shape c = search net-row-cases

pub gate_part-part-requires : goal.gate_part-part-requires
gate_part-part-requires c = search net-row-cases

pub bounds-part-3 : goal.bounds-part-3
bounds-part-3 c = search net-row-cases

pub add_pins-requires : goal.add_pins-requires
add_pins-requires c = search net-row-cases

pub returns : goal.returns
returns c = search net-row-cases
