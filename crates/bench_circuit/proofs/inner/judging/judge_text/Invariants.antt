-- `bench_circuit::inner::judging::judge_text` meets its contract: the lines that are left, from the circuit so far, give the whole; so does the number of the first bad one.
use Rattle.model.proofs.Prelude.{◌≤◌, ◌-◌, length}
use Rattle.bench_circuit.proofs.TextCases.{JudgedSoFar}
use Rattle.bench_circuit.proofs.inner.judging.judge_text.Given as goal

abbrev pub invariant-loop-at : goal.invariant-loop-at
invariant-loop-at l =
    JudgedSoFar l.text l.at l.inputs l.gates l.outputs l.counts l.before × (l.before ≤ l.at)

abbrev pub decreases-loop-at : goal.decreases-loop-at
decreases-loop-at l = length l.text - l.at
