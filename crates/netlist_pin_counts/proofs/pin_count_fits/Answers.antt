-- `netlist_pin_counts::pin_count_fits` meets its contract: each return is a case of the kind and the pin count.
use Rattle.netlist_pin_counts.proofs.FitCases.{fit-cases}
use Rattle.netlist_pin_counts.proofs.pin_count_fits.Goals as goal

pub returns-then-kind-le2 : goal.returns-then-kind-le2
returns-then-kind-le2 c = search fit-cases

pub returns-then-pins-lt1 : goal.returns-then-pins-lt1
returns-then-pins-lt1 c = search fit-cases

pub returns : goal.returns
returns c = search fit-cases
