-- A test record as it is written byte by byte.
use Rattle.model.proofs.Prelude.{ℕ, ◌+◌, ◌≡◌, ◌∙◌, ap, refl, sym, List, [], ◌∷◌, ◌++◌, length, set, sets, add-one, rules}
use Rattle.model.specs.Base.{little_endian}
use Rattle.model.specs.Encode.{test_bytes}
use Rattle.model.proofs.FieldLaws.{length-little_endian}
use Rattle.record_bytes.proofs.ByteLaws.{sets_append}

pub mark-put : (l : List ℕ) (at : ℕ) → set (set l at 0x54) (at + 1) 0x50 ≡ sets l at (0x54 ∷ 0x50 ∷ [])
mark-put l at = rw (add-one at) refl

-- the mark, V1 and V2, one after the other
pub test-put : (l m a b : List ℕ) (at n x y : ℕ)
    → m ≡ sets l at (0x54 ∷ 0x50 ∷ []) → a ≡ sets m (at + 2) (little_endian n x)
    → b ≡ sets a (at + 2 + n) (little_endian n y) → b ≡ sets l at (test_bytes (little_endian n x) (little_endian n y))
unfolding test_bytes
test-put l m a b at n x y o p q =
    let v1 : List ℕ = little_endian n x in
    let v2 : List ℕ = little_endian n y in
    let mark : List ℕ = 0x54 ∷ 0x50 ∷ [] in
    let i : at + 2 + n ≡ at + 2 + length (little_endian n x) = ap (λ k. at + 2 + k) (sym (length-little_endian n x)) in
    q
    ∙ ap (λ (z : List ℕ). sets z (at + 2 + n) v2) (p ∙ ap (λ (z : List ℕ). sets z (at + 2) v1) o)
    ∙ sets_append v1 v2 (sets l at mark) (at + 2) (at + 2 + n) i
    ∙ sets_append mark (v1 ++ v2) l at (at + 2) refl

pub ruleset test-put-cases = (mark-put, test-put, rules)
