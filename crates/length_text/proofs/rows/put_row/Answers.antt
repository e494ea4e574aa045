-- `length_text::rows::put_row` meets its contract: the line that was put together.
use Rattle.model.proofs.Prelude.{ap}
use Rattle.text_buffer.specs.Written.{plain_line}
use Rattle.text_buffer.proofs.WrittenLaws.{written_as}
use Rattle.length_text.proofs.rows.put_row.Goals as goal

pub returns : goal.returns
returns c =
    (written_as (ap plain_line c.row_line.ensures) c.put_line.ensures.0, c.put_line.ensures.1)
