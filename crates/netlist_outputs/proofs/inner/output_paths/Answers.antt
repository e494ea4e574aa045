-- `netlist_outputs::inner::output_paths` meets its contract: each return is a case of the net.
use Rattle.netlist_outputs.proofs.OutputCases.{paths-cases}
use Rattle.netlist_outputs.proofs.inner.output_paths.Goals as goal

pub returns-then-net-inputs : goal.returns-then-net-inputs
returns-then-net-inputs c = search paths-cases

pub returns : goal.returns
returns c = search paths-cases
