-- Fields of bytes: one byte more, as the loops count; stores one after the other; bytes compared part by part.
use Rattle.model.proofs.Prelude.{ℕ, ◌≤◌, ◌<◌, ◌+◌, ◌-◌, ◌*◌, suc, zero, ◌/◌, ◌%◌, ◌≡◌, ◌∙◌, ap, refl, sym, true, Bool, false, ◌&&◌, and_assoc, List}
use Rattle.model.proofs.Prelude.{[], ◌∷◌, ◌++◌, length, get_or, drop, take, set, length-drop, take-append-drop, sets, length-take-le, drop-drop}
use Rattle.model.proofs.Prelude.{drop-cons, eqb, add-one, arith, ne_eqb, eq-eqb}
use Rattle.model.specs.Base.{little_endian, field}
use Rattle.model.specs.Report.{same_bytes}
use Rattle.model.proofs.FieldLaws.{field-two}

-- the field of two bytes, from its bytes
pub field_is : (s : List ℕ) (at low high : ℕ) → at + 1 < length s → low ≡ get_or s at 0 → high ≡ get_or s (at + 1) 0 → low + 256 * high ≡ field at 2 s
field_is s at low high h a b = rw (a, b) (sym (field-two s at h))

pub put_step : (l : List ℕ) (at k v : ℕ) → 0 < k → sets (set l at (v % 256)) (at + 1) (little_endian (k - 1) (v / 256)) ≡ sets l at (little_endian k v)
put_step l at zero v h = absurd (omega arith)
put_step l at (suc k) v h =
    let b : suc k - 1 ≡ k = omega arith in
    rw (b, add-one at) refl

pub put-none : (l : List ℕ) (at k v : ℕ) → k ≤ 0 → sets l at (little_endian k v) ≡ l
put-none l at zero v h = refl
put-none l at (suc k) v h = absurd (omega arith)

same_next : (s : List ℕ) (at k v : ℕ) → 0 < k → at < length s
    → same_bytes (take k (drop at s)) (little_endian k v) ≡ (eqb (get_or s at 0) (v % 256) && same_bytes (take (k - 1) (drop (at + 1) s)) (little_endian (k - 1) (v / 256)))
same_next s at zero v h l = absurd (omega arith)
same_next s at (suc k) v h l =
    let b : suc k - 1 ≡ k = omega arith in
    ap (λ (x : List ℕ). same_bytes (take (suc k) x) (little_endian (suc k) v)) (drop-cons s at 0 l) ∙ rw (b, add-one at) refl

module _ (s : List ℕ) (at k v : ℕ) (h : 0 < k) (l : at < length s) where
  pub same-yes : get_or s at 0 ≡ v % 256
      → same_bytes (take k (drop at s)) (little_endian k v) ≡ same_bytes (take (k - 1) (drop (at + 1) s)) (little_endian (k - 1) (v / 256))
  same-yes e = same_next s at k v h l ∙ rw (eq-eqb (get_or s at 0) (v % 256) e)

  pub same-no : (get_or s at 0 ≡ v % 256 → ⊥) → same_bytes (take k (drop at s)) (little_endian k v) ≡ false
  same-no d = same_next s at k v h l ∙ rw (ne_eqb (get_or s at 0) (v % 256) d)

pub same_none : (s : List ℕ) (at k v : ℕ) → k ≤ 0 → same_bytes (take k (drop at s)) (little_endian k v) ≡ true
same_none s at zero v h = refl
same_none s at (suc k) v h = absurd (omega arith)

-- stores one after the other
pub sets_append : (xs ys l : List ℕ) (i j : ℕ) → j ≡ i + length xs → sets (sets l i xs) j ys ≡ sets l i (xs ++ ys)
sets_append [] ys l i j e = ap (λ (k : ℕ). sets l k ys) (omega arith)
sets_append (x ∷ xs) ys l i j e = sets_append xs ys (set l i x) (suc i) j (omega arith)

-- bytes compared part by part
pub same-append : (ps xs bs ys : List ℕ) → length ps ≡ length xs → same_bytes (ps ++ bs) (xs ++ ys) ≡ (same_bytes ps xs && same_bytes bs ys)
same-append [] [] bs ys e = refl
same-append [] (x ∷ xs) bs ys e = absurd (omega arith)
same-append (a ∷ ps) [] bs ys e = absurd (omega arith)
same-append (a ∷ ps) (x ∷ xs) bs ys e =
    ap (λ (t : Bool). eqb a x && t) (same-append ps xs bs ys (omega arith)) ∙ sym (and_assoc (eqb a x) (same_bytes ps xs) (same_bytes bs ys))

-- bytes of another length differ
pub same_length : (xs ys : List ℕ) → (length xs ≡ length ys → ⊥) → same_bytes xs ys ≡ false
same_length [] [] d = absurd (d refl)
same_length [] (y ∷ ys) d = refl
same_length (x ∷ xs) [] d = refl
same_length (x ∷ xs) (y ∷ ys) d = rw (same_length xs ys (λ e. d (ap suc e))) (mathlib.Core.Bool.and-false (eqb x y))

module _ (s : List ℕ) (at k : ℕ) (xs ys : List ℕ) (len : length xs ≡ k) (fits : at + k ≤ length s) where
  pub part : same_bytes (drop at s) (xs ++ ys) ≡ (same_bytes (take k (drop at s)) xs && same_bytes (drop (at + k) s) ys)
  part =
      let l : length (take k (drop at s)) ≡ k = length-take-le k (drop at s) (simp length-drop (omega arith)) in
      ap (λ (z : List ℕ). same_bytes z (xs ++ ys)) (sym (take-append-drop k (drop at s)))
      ∙ same-append (take k (drop at s)) xs (drop k (drop at s)) ys (l ∙ sym len)
      ∙ ap (λ (z : List ℕ). same_bytes (take k (drop at s)) xs && same_bytes z ys) (drop-drop k at s)

  -- a part that agrees leaves the rest to decide
  pub part-yes : same_bytes (take k (drop at s)) xs ≡ true → same_bytes (drop at s) (xs ++ ys) ≡ same_bytes (drop (at + k) s) ys
  part-yes e = part ∙ rw e refl

  pub part_no : same_bytes (take k (drop at s)) xs ≡ false → same_bytes (drop at s) (xs ++ ys) ≡ false
  part_no e = part ∙ rw e refl
