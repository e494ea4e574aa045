-- Small examples of text, computed from the definitions.
use Rattle.model.proofs.Prelude.{◌≡◌, refl, [], ◌∷◌}
use Rattle.text_line.specs.Decimal.{digits_of, decimal_text, refused_text}

-- `0`, `10`, the largest number of 64 bits, and `refused 72`
pub texts_hold :
    (decimal_text 0 ≡ 48 ∷ [])
    × (decimal_text 10 ≡ 49 ∷ 48 ∷ [])
    × (decimal_text 18446744073709551615 ≡ 49 ∷ 56 ∷ 52 ∷ 52 ∷ 54 ∷ 55 ∷ 52 ∷ 52 ∷ 48 ∷ 55 ∷ 51 ∷ 55 ∷ 48 ∷ 57 ∷ 53 ∷ 53 ∷ 49 ∷ 54 ∷ 49 ∷ 53 ∷ [])
    × (refused_text 72 ≡ 114 ∷ 101 ∷ 102 ∷ 117 ∷ 115 ∷ 101 ∷ 100 ∷ 32 ∷ 55 ∷ 50 ∷ [])
unfolding digits_of decimal_text refused_text
texts_hold = (refl, refl, refl, refl)
