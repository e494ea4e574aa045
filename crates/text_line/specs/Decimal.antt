-- Numbers as text: decimal digits in ASCII, no zero in front.
use Rattle.std.specs.Prelude.{true, false, List, [], ◌∷◌, ◌++◌, ℕ, zero, suc, ◌+◌, ◌/◌, ◌%◌, ltb}

-- the decimal digits of a number that has at most `most` of them
unfoldable pub digits_of : ℕ → ℕ → List ℕ
digits_of zero n = []
digits_of (suc most) n = elim (ltb n 10) [ true ↦ (48 + n) ∷ [] | false ↦ digits_of most (n / 10) ++ ((48 + n % 10) ∷ []) ]

-- the decimal digits of a number of 64 bits, which has at most 20
unfoldable pub decimal_text : ℕ → List ℕ
decimal_text n = digits_of 20 n

-- the text `refused `
abbrev pub refused_word : List ℕ
refused_word = 0x72 ∷ 0x65 ∷ 0x66 ∷ 0x75 ∷ 0x73 ∷ 0x65 ∷ 0x64 ∷ 0x20 ∷ []

-- `refused` and the number of a refusal
unfoldable pub refused_text : ℕ → List ℕ
refused_text number = refused_word ++ decimal_text number
