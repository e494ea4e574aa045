-- `netlist::inner::gate_part` meets its contract: the rest of the file from the gate's position on.
use Rattle.model.proofs.Prelude.{rules}
use Rattle.netlist.proofs.TableLaws.{part_at}
use Rattle.netlist.proofs.inner.gate_part.Goals as goal

pub returns : goal.returns
returns c = search (part_at, rules)
