-- `netlist::inner::set_inputs` meets its contract: the array so far holds a one for each input so far.
use Rattle.model.proofs.Prelude.{◌≤◌, ◌≡◌, replicate}
use Rattle.model.specs.Calls.{padded}
use Rattle.netlist.proofs.inner.set_inputs.Given as goal

abbrev pub invariant-loop-i : goal.invariant-loop-i
invariant-loop-i l = (l.i ≤ l.inputs) × (l.counts ≡ padded (replicate l.i 1))
