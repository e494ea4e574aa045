-- `bench_names::inner::pins_known` meets its contract: the pins so far are looked up, those that are left are to be.
use Rattle.model.proofs.Prelude.{◌-◌, length}
use Rattle.bench_names.proofs.NameNetLaws.{KnownSoFar}
use Rattle.bench_names.proofs.inner.pins_known.Given as goal

abbrev pub invariant-loop-more : goal.invariant-loop-more
invariant-loop-more l =
    KnownSoFar l.line l.at l.inputs l.input_count l.gates l.gate_count l.place l.more l.known

abbrev pub decreases-loop-more : goal.decreases-loop-more
decreases-loop-more l = length l.line - l.place
