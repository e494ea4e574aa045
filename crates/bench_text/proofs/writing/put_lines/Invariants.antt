-- `bench_text::writing::put_lines` meets its contract: the lines that are left, written from here on, give the whole.
use Rattle.model.proofs.Prelude.{◌-◌, length}
use Rattle.bench_text.proofs.WriteLaws.{LinesLeft}
use Rattle.bench_text.proofs.writing.put_lines.Given as goal

abbrev pub invariant-loop-at : goal.invariant-loop-at
invariant-loop-at l =
    LinesLeft l.initial.out l.to_place l.text l.inputs l.input_count l.gates l.gate_count l.out l.write l.at

abbrev pub decreases-loop-at : goal.decreases-loop-at
decreases-loop-at l = length l.text - l.at
