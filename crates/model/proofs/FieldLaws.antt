-- Fields of bytes, low byte first.
use Rattle.model.proofs.Prelude.{ℕ, ◌<◌, ◌+◌, ◌*◌, suc, zero, ◌/◌, ◌≡◌, ◌∙◌, ap, refl, List, ◌∷◌, length, get_or, drop, take, drop-cons, add-one}
use Rattle.model.proofs.Prelude.{arith}
use Rattle.model.specs.Base.{field, from_little_endian, little_endian}

pub length-little_endian : (n k : ℕ) → length (little_endian n k) ≡ n
length-little_endian zero k = refl
length-little_endian (suc n) k = ap suc (length-little_endian n (k / 256))

pub field-two : (bs : List ℕ) (at : ℕ) → at + 1 < length bs → field at 2 bs ≡ get_or bs at 0 + 256 * get_or bs (at + 1) 0
field-two bs at h =
    let a : drop at bs ≡ get_or bs at 0 ∷ (get_or bs (suc at) 0 ∷ drop (suc (suc at)) bs) =
    drop-cons bs at 0 (omega arith) ∙ ap (λ x. get_or bs at 0 ∷ x) (drop-cons bs (suc at) 0 (omega arith)) in
    ap (λ x. from_little_endian (take 2 x)) a ∙ rw (add-one at) (omega arith)
