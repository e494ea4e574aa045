-- `length_chart::bars::put_lengths` meets its contract. The invariant: what is drawn for the lengths below `i` is written, of at most 500 bytes each.
use Prim.Native.Nat.{◌+◌, ◌-◌, ◌*◌, ◌≤◌}
use Rattle.text_buffer.specs.Written.{Written, each_below_of}
use Rattle.length_chart.specs.Chart.{bars_at}
use Rattle.length_chart.proofs.bars.put_lengths.Given as goal

abbrev pub invariant-loop-i : goal.invariant-loop-i
invariant-loop-i l =
    (l.i ≤ 64) × (l.at ≤ l.start + 500 * l.i) × Written l.initial.out l.out l.start (each_below_of (bars_at l.paths l.rising l.falling) l.i) l.at
