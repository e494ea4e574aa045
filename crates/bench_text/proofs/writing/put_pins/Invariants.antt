-- `bench_text::writing::put_pins` meets its contract: the pins so far are written, those that are left are to be.
use Rattle.model.proofs.Prelude.{◌-◌, length}
use Rattle.bench_text.proofs.GateLaws.{PutSoFar}
use Rattle.bench_text.proofs.writing.put_pins.Given as goal

abbrev pub invariant-loop-more : goal.invariant-loop-more
invariant-loop-more l =
    PutSoFar l.initial.out l.to_place l.line l.initial.place l.inputs l.input_count l.gates l.gate_count l.out l.write l.place l.more

abbrev pub decreases-loop-more : goal.decreases-loop-more
decreases-loop-more l =
    length l.line - l.place
