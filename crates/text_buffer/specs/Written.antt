-- Text in a lent buffer.
use Rattle.std.specs.Prelude.{◌≡◌, true, false, List, [], ◌∷◌, ◌++◌, ℕ, zero, suc, ◌+◌, ◌≤◌, ltb, length}
use Rattle.std.proofs.lemmas.List.Edits.{sets}
use Rattle.text_line.specs.Decimal.{decimal_text}

-- a text is written into the buffer from place `at` on and nothing else, and `next` is the place after it
pub record Written (out out' : List ℕ) (at : ℕ) (text : List ℕ) (next : ℕ) : Type 0 where
  pub bytes : out' ≡ sets out at text
  pub place : next ≡ at + length text
  pub inside : next ≤ length out'

-- a text as a line, with its end
abbrev pub plain_line : List ℕ → List ℕ
plain_line text = text ++ 10 ∷ []

-- a line of a number between two texts
abbrev pub number_line : List ℕ → ℕ → List ℕ → List ℕ
number_line before n following = before ++ decimal_text n ++ plain_line following

-- the texts of the numbers below `n`, in order
unfoldable pub each_below_of : (ℕ → List ℕ) → ℕ → List ℕ
each_below_of f zero = []
each_below_of f (suc n) = each_below_of f n ++ f n

-- a text, where a buffer has so many bytes; none where it has fewer
unfoldable pub in_room : ℕ → List ℕ → List ℕ → List ℕ
in_room least out text = elim (ltb (length out) least) [ true ↦ [] | false ↦ text ]
