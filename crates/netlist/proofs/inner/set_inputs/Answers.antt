-- `netlist::inner::set_inputs` meets its contract: the array so far holds a one for each input so far.
use Rattle.netlist.proofs.OnesCases.{ones-cases}
use Rattle.netlist.proofs.inner.set_inputs.Goals as goal

pub loop-i-init : goal.loop-i-init
loop-i-init c = search ones-cases

pub offset_bounds-counts-i : goal.offset_bounds-counts-i
offset_bounds-counts-i c = search ones-cases

pub bounds-counts-i : goal.bounds-counts-i
bounds-counts-i c = search ones-cases

pub loop-i-preserved : goal.loop-i-preserved
loop-i-preserved c = search ones-cases

pub returns : goal.returns
returns c = search ones-cases
