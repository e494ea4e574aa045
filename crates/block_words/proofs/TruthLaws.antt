-- Truth values, as the bits of words use them.
use Rattle.model.proofs.Prelude.{◌≡◌, refl, true, Bool, false}
use Rattle.block_words.specs.Words.{unequal}

pub unequal-none : (b : Bool) → unequal b false ≡ b
unequal-none true = refl
unequal-none false = refl

pub unequal-false : (b : Bool) → unequal false b ≡ b
unequal-false true = refl
unequal-false false = refl
