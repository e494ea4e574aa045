-- A sentence alone on a line.
use Rattle.model.proofs.Prelude.{ℕ, ◌≡◌, ◌∙◌, sym, List, [], length, leb, T, leb→le}
use Rattle.text_line.specs.Lines.{on_line}
use Rattle.text_line.proofs.LineLaws.{on_line-alone}

-- the sentence of the case at hand
pub said : (t y d : List ℕ) → y ≡ on_line [] t → T (leb (length t) 128) → d ≡ t → y ≡ d
said t y d e h q = e ∙ on_line-alone t (leb→le (length t) 128 h) ∙ sym q
