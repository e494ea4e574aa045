-- `netlist_outputs::inner::read_output` meets its contract: each return is a case of the output, by what was read before it.
use Rattle.netlist_outputs.proofs.OutputCases.{output-cases}
use Rattle.netlist_outputs.proofs.inner.read_output.Goals as goal

pub returns-then-not-marked : goal.returns-then-not-marked
returns-then-not-marked c = search output-cases

pub u16_at-net-requires : goal.u16_at-net-requires
u16_at-net-requires c = search output-cases

pub returns-then-nets-net : goal.returns-then-nets-net
returns-then-nets-net c = search output-cases

pub returns-then-net-low : goal.returns-then-net-low
returns-then-net-low c = search output-cases

pub returns-then-total-count : goal.returns-then-total-count
returns-then-total-count c = search output-cases

pub returns : goal.returns
returns c = search output-cases
