-- Parts of a list of bytes, one byte longer as a loop goes on.
use Rattle.model.proofs.Prelude.{ℕ, ◌≤◌, ◌<◌, ◌+◌, ◌-◌, suc, ◌≡◌, ◌∙◌, refl, true, Bool, false, ◌&&◌, List, [], ◌∷◌, ◌++◌, length, get_or, drop}
use Rattle.model.proofs.Prelude.{length-drop, length-take-le, drop-cons, get_or-drop, add-one, arith}
use lib.Seq.{take-suc}
use Rattle.model.specs.Base.{all_of}
use Rattle.bench_lines.specs.LineReading.{part}

pub part_none : (at : ℕ) (bs : List ℕ) → part at at bs ≡ []
part_none at bs = let z : at - at ≡ 0 = omega arith in rw z refl

pub part-more : (at i : ℕ) (bs : List ℕ) → at ≤ i → i < length bs
    → part at (i + 1) bs ≡ part at i bs ++ (get_or bs i 0 ∷ [])
part-more at i bs l h =
    let a : i + 1 - at ≡ suc (i - at) = omega arith in
    let b : at + (i - at) ≡ i = omega arith in
    rw a (take-suc (drop at bs) (i - at) 0 (omega (arith, length-drop at bs)) ∙ rw (get_or-drop at bs (i - at) 0, b) refl)

pub drop-next : (i : ℕ) (bs : List ℕ) → i < length bs → drop i bs ≡ get_or bs i 0 ∷ drop (i + 1) bs
drop-next i bs h = rw (add-one i) (drop-cons bs i 0 h)

pub length_part : (at to : ℕ) (bs : List ℕ) → to ≤ length bs → length (part at to bs) ≡ to - at
length_part at to bs h = length-take-le (to - at) (drop at bs) (omega (arith, length-drop at bs))

pub both_left : (a b : Bool) → a && b ≡ true → a ≡ true
both_left true b h = refl
both_left false b h = absurd (mathlib.Core.Bool.false≢true h)

pub both_right : (a b : Bool) → a && b ≡ true → b ≡ true
both_right true b h = h
both_right false b h = absurd (mathlib.Core.Bool.false≢true h)

pub all_snoc : (P : ℕ → Bool) (xs : List ℕ) (y : ℕ) → all_of P xs ≡ true → P y ≡ true → all_of P (xs ++ (y ∷ [])) ≡ true
all_snoc P [] y a e = rw e refl
all_snoc P (x ∷ xs) y a e = rw (both_left (P x) (all_of P xs) a) (all_snoc P xs y (both_right (P x) (all_of P xs) a) e)
