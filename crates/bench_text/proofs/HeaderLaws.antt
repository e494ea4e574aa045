-- The header of a netlist file written.
use Rattle.model.proofs.Prelude.{ℕ, ◌≡◌, ◌∙◌, ap, List, sets}
use Rattle.model.specs.Base.{little_endian}
use Rattle.model.specs.Encode.{header_bytes}

pub header-put : (out o₁ o₂ o₃ o₄ : List ℕ) (i g u : ℕ) → o₁ ≡ sets out 0 (little_endian 2 0x4C4E)
    → o₂ ≡ sets o₁ 2 (little_endian 2 i) → o₃ ≡ sets o₂ 4 (little_endian 2 g) → o₄ ≡ sets o₃ 6 (little_endian 2 u)
    → o₄ ≡ sets out 0 (header_bytes i g u)
unfolding header_bytes
header-put out o₁ o₂ o₃ o₄ i g u e₁ e₂ e₃ e₄ =
    let put : ℕ → ℕ → List ℕ → List ℕ = λ at n o. sets o at (little_endian 2 n) in
    e₄ ∙ ap (put 6 u) (e₃ ∙ ap (put 4 g) (e₂ ∙ ap (put 2 i) e₁))
