-- Vectors of a block: a word of inputs for each record, and a word of records for each input.
use Rattle.std.specs.Prelude.{◌≡◌, false, ◌||◌, List, ◌⊎◌, ℕ, ◌+◌, ◌*◌, ◌^◌, ◌≤◌, ◌<◌, length, get_or}
use Rattle.model.specs.Base.{bit}

-- bit i of a byte is the lowest bit of byte i of the word; the other bits are 0
pub record BitsSpread (byte r : ℕ) : Type 0 where
  pub lowest : (i : ℕ) → i < 8 → bit r (8 * i) ≡ bit byte i
  pub others : (i t : ℕ) → i < 8 → 1 ≤ t → t < 8 → bit r (8 * i + t) ≡ false
  pub small : r < 2 ^ 64

-- bit t of byte i is bit `shift` + i of vector `first` + t
pub record Gathered (vectors : List ℕ) (first shift r : ℕ) : Type 0 where
  pub bits : (i t : ℕ) → i < 8 → t < 8 → bit r (8 * i + t) ≡ bit (get_or vectors (first + t) 0) (shift + i)

-- byte i of a word is put into word `first` + i at `place`; the other bits are as before
pub record Scattered (word first place : ℕ) (before after : List ℕ) : Type 0 where
  pub same_length_of : length after ≡ length before
  pub put : (i t : ℕ) → i < 8 → t < 8 → bit (get_or after (first + i) 0) (place + t) ≡ (bit (get_or before (first + i) 0) (place + t) || bit word (8 * i + t))
  pub others : (i s : ℕ) → i < 8 → (s < place) ⊎ (place + 8 ≤ s) → s < 64 → bit (get_or after (first + i) 0) s ≡ bit (get_or before (first + i) 0) s
  pub words : (j : ℕ) → (j < first) ⊎ (first + 8 ≤ j) → get_or after j 0 ≡ get_or before j 0

-- eight words, which were 0, have the bits of eight inputs; the others are as before
pub record ColumnTransposed (vectors : List ℕ) (first n byte : ℕ) (before after : List ℕ) : Type 0 where
  pub same_length_of : length after ≡ length before
  pub words : (j : ℕ) → (j < 8 * byte) ⊎ (8 * byte + 8 ≤ j) → get_or after j 0 ≡ get_or before j 0
  pub bits : ((i : ℕ) → i < 8 → get_or before (8 * byte + i) 0 ≡ 0)
      → (i t : ℕ) → i < 8 → t < n → bit (get_or after (8 * byte + i) 0) t ≡ bit (get_or vectors (first + t) 0) (8 * byte + i)

-- bit t of word j is bit j of vector t, for n vectors from place `first` on
pub record Transposed (vectors : List ℕ) (first n inputs : ℕ) (words : List ℕ) : Type 0 where
  pub bits : (j : ℕ) → j < inputs → (t : ℕ) → t < n → bit (get_or words j 0) t ≡ bit (get_or vectors (first + t) 0) j
