-- `bench_circuit::inner::ending::outputs_known` meets its contract: the outputs that are left decide.
use Rattle.model.proofs.Prelude.{◌-◌, ◌*◌, ◌≡◌}
use Rattle.bench_circuit.specs.Ending.{pairs_known}
use Rattle.bench_circuit.proofs.inner.ending.outputs_known.Given as goal

abbrev pub invariant-loop-k : goal.invariant-loop-k
invariant-loop-k l =
    let known = pairs_known l.inputs l.input_count l.gates l.gate_count l.outputs in
    known (l.output_count - l.k) (2 * l.k) ≡ known l.output_count 0
