-- `length_text::columns::number_line` meets its contract: a number of at most 20 digits is alone on its line.
use Rattle.model.proofs.Prelude.{◌∙◌, arith}
use Rattle.text_line.specs.Decimal.{decimal_text}
use Rattle.text_line.proofs.DecimalLaws.{at-most-20}
use Rattle.text_line.proofs.LineLaws.{first_part, on_line-alone}
use Rattle.length_text.proofs.columns.number_line.Goals as goal

pub returns : goal.returns
returns c =
    first_part _ _ _ c.empty_line.ensures c.with_number.ensures ∙ on_line-alone (decimal_text c.args.number) (omega (arith, at-most-20 c.args.number))
