-- `length_text::rows::put_length` meets its contract: a line where there is a path.
use Rattle.model.proofs.Prelude.{ℕ, ◌≤◌, ◌∙◌, ap, List, length, arith}
use Rattle.text_line.specs.Lines.{text_of}
use Rattle.text_line.proofs.DecimalLaws.{at-most-20}
use Rattle.text_buffer.specs.Written.{plain_line}
use Rattle.text_buffer.proofs.WrittenLaws.{none_written, written_as}
use Rattle.length_text.specs.LengthTable.{row_text}
use Rattle.length_text.proofs.LengthRowCases.{no_row, row-there}
use Rattle.length_text.proofs.rows.put_length.Goals as goal

pub returns-then-paths-eq0 : goal.returns-then-paths-eq0
returns-then-paths-eq0 c =
    let none = none_written c.args.out.now c.args.at (omega arith) in
    (written_as (no_row c.args.gates c.args.paths c.args.rising c.args.falling (omega arith)) none, omega arith)

pub put_row-requires : goal.put_row-requires
put_row-requires c =
    let few : length (text_of c.number_line.result) ≤ 20 = rw c.number_line.ensures (at-most-20 c.args.gates) in
    (omega arith, few)

pub returns : goal.returns
returns c =
    let named = ap (λ (t : List ℕ). plain_line (row_text t c.args.paths c.args.rising c.args.falling)) c.number_line.ensures in
    (written_as (named ∙ row-there c.args.gates c.args.paths c.args.rising c.args.falling (omega arith)) c.put_row.ensures.0, c.put_row.ensures.1)
