-- Bits of words flipped by a mask.
use Rattle.std.specs.Prelude.{◌≡◌, ◌&&◌, List, ℕ, ◌<◌, length, get_or}
use Rattle.model.specs.Base.{bit}
use Rattle.block_words.specs.Words.{unequal}

-- in the words that changed, the bits of the mask are flipped
pub record Flipped (before after : List ℕ) (changed mask : ℕ) : Type 0 where
  pub same_length_of : length after ≡ length before
  pub bits : (j : ℕ) → j < 64 → (s : ℕ) → bit (get_or after j 0) s ≡ unequal (bit (get_or before j 0) s) (bit changed j && bit mask s)
