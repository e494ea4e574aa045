-- `bench_circuit::inner::ending::undefined_line` meets its contract: the lines that are left give the first line.
use Rattle.model.proofs.Prelude.{◌≤◌, ◌-◌, length}
use Rattle.bench_circuit.proofs.EndLaws.{UndefinedLeft}
use Rattle.bench_circuit.proofs.inner.ending.undefined_line.Given as goal

abbrev pub invariant-loop-at : goal.invariant-loop-at
invariant-loop-at l =
    UndefinedLeft l.text l.inputs l.input_count l.gates l.gate_count l.before l.at × (l.before ≤ l.at)

abbrev pub decreases-loop-at : goal.decreases-loop-at
decreases-loop-at l = length l.text - l.at
