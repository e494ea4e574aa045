-- `text_line::with_text` meets its contract. The invariant: the text so far with what is left at its end is, on a line, the whole.
use Rattle.model.proofs.Prelude.{◌≤◌, ◌≡◌, length, drop, take}
use Rattle.text_line.specs.Lines.{on_line, text_of}
use Rattle.text_line.proofs.with_text.Given as goal

abbrev pub invariant-loop-byte : goal.invariant-loop-byte
invariant-loop-byte l =
    (l.byte-index ≤ length l.text) × (l.at ≤ 128) × (length l.longer.bytes ≡ 128)
    × (on_line (take l.at l.longer.bytes) (drop l.byte-index l.text) ≡ on_line (text_of l.initial.longer) l.text)
