-- `text_line::with_refusal` meets its contract: a word, then a number at its end.
use Rattle.model.proofs.Prelude.{ℕ, ◌∙◌, ap, List, ◌++◌}
use Rattle.text_line.specs.Decimal.{decimal_text, refused_word, refused_text}
use Rattle.text_line.specs.Lines.{on_line, text_of}
use Rattle.text_line.proofs.LineLaws.{on_line-twice}
use Rattle.text_line.proofs.with_refusal.Goals as goal

pub returns : goal.returns
unfolding refused_text
returns c =
    let line = c.args.line in
    let number = c.refusal_number in
    c.with_number.ensures
    ∙ ap (λ (t : List ℕ). on_line t (decimal_text number.result)) c.with_text.ensures
    ∙ on_line-twice (text_of line) refused_word (decimal_text number.result)
    ∙ ap (λ (n : ℕ). on_line (text_of line) (refused_word ++ decimal_text n)) number.ensures
