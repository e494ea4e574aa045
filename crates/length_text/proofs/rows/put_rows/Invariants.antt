-- `length_text::rows::put_rows` meets its contract. The invariant: the lines of the lengths below `i` are written, of at most 129 bytes each.
use Rattle.model.proofs.Prelude.{◌≤◌, ◌+◌, ◌*◌}
use Rattle.text_buffer.specs.Written.{Written, each_below_of}
use Rattle.length_text.specs.LengthTable.{row_at}
use Rattle.length_text.proofs.rows.put_rows.Given as goal

abbrev pub invariant-loop-i : goal.invariant-loop-i
invariant-loop-i l =
    (l.i ≤ 64) × (l.at ≤ l.start + 129 * l.i) × Written l.initial.out l.out l.start (each_below_of (row_at l.paths l.rising l.falling) l.i) l.at
