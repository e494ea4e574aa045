-- `text_line::with_text` meets its contract. The invariant: the text so far with what is left at its end is, on a line, the whole.
use Rattle.model.proofs.Prelude.{◌≡◌, ◌∙◌, length, length-set, arith, rules}
use Rattle.text_line.proofs.LineLaws.{line_step, line-full, line-end}
use Rattle.text_line.proofs.with_text.Goals as goal

pub loop-byte-preserved : goal.loop-byte-preserved
loop-byte-preserved c =
    let l = c.loop-byte in
    let text = c.args.text.now in
    let long : length l.longer.bytes ≡ 128 = l.invariant.2 in
    (search rules, search rules, simp length-set long, line_step l.longer.bytes text long l.at l.byte-index (omega arith) (omega arith) ∙ l.invariant.3)

pub returns-after-loop-byte : goal.returns-after-loop-byte
returns-after-loop-byte c =
    let l = c.loop-byte in
    let text = c.args.text.now in
    line-end l.longer.bytes text l.invariant.2 l.at l.byte-index l.invariant.1 (omega arith) ∙ l.invariant.3

pub returns-then-at-ge-LINE_BYTES : goal.returns-then-at-ge-LINE_BYTES
returns-then-at-ge-LINE_BYTES c =
    let l = c.loop-byte in
    let text = c.args.text.now in
    line-full l.longer.bytes text l.invariant.2 l.at l.byte-index l.invariant.1 (omega arith) ∙ l.invariant.3
