-- `exhaust_undetected_text::count_line` meets its contract: a word and the number.
use Rattle.model.proofs.Prelude.{◌∙◌}
use Rattle.exhaust_undetected_text.specs.UndetectedText.{count_text}
use Rattle.exhaust_undetected_text.proofs.UndetectedLineCases.{count-short}
use Rattle.text_line.proofs.LineLaws.{first_part, then-part, on_line-alone}
use Rattle.exhaust_undetected_text.proofs.count_line.Goals as goal

pub returns : goal.returns
unfolding count_text
returns c =
    let p1 = first_part _ _ _ c.empty_line.ensures c.with_text.ensures in
    then-part _ _ _ _ _ p1 c.with_number.ensures ∙ on_line-alone _ (count-short c.args.count)
