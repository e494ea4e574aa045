-- `netlist::inner::outputs_part` meets its contract: the rest of the file from the first output's record on.
use Rattle.model.proofs.Prelude.{rules}
use Rattle.record_bytes.proofs.PartLaws.{part-rest}
use Rattle.netlist.proofs.inner.outputs_part.Goals as goal

pub returns : goal.returns
returns c = search (part-rest, rules)
