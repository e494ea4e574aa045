-- `single_intervals::nets::pin_runs` meets its contract: the runs of the pin's net, counted where the pin's digit is 1.
use Rattle.single_intervals.proofs.OpenRunLaws.{pin-cases}
use Rattle.single_intervals.proofs.nets.pin_runs.Goals as goal

pub pin_net-net-requires : goal.pin_net-net-requires
pin_net-net-requires c = search pin-cases

pub digit-requires : goal.digit-requires
digit-requires c = search pin-cases

pub open_count-requires : goal.open_count-requires
open_count-requires c = search pin-cases

pub returns : goal.returns
returns c = search pin-cases
