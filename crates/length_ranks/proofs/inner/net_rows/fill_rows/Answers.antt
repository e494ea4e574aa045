-- `length_ranks::inner::net_rows::fill_rows` meets its contract: the rows of the nets before the one at hand stand in the table.
use Rattle.model.proofs.Prelude.{◌-◌}
use Rattle.length_ranks.proofs.FillCases.{fill-cases}
use Rattle.length_ranks.proofs.inner.net_rows.fill_rows.Goals as goal

pub loop-net-init : goal.loop-net-init
loop-net-init c = search fill-cases

pub net_row-sums-requires : goal.net_row-sums-requires
net_row-sums-requires c = search fill-cases

pub offset_bounds-rows-net : goal.offset_bounds-rows-net
offset_bounds-rows-net c = search fill-cases

pub bounds-rows-net : goal.bounds-rows-net
bounds-rows-net c = search fill-cases

pub loop-net-preserved : goal.loop-net-preserved
loop-net-preserved c = search fill-cases

pub returns : goal.returns
returns c = search fill-cases
