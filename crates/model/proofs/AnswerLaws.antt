-- An answer that is a value: each step before it passed.
use Rattle.std.specs.Prelude.{Result, Err, IsErrAnd}
use Rattle.std.proofs.lemmas.Result.{err_from_is_err_and}
use Rattle.model.specs.declared.Refusal.{Refusal}
use Rattle.model.proofs.Prelude.{ℕ, ◌≡◌, ◌∙◌, ap, refl, ap₂, true, Bool, false, List, [], ◌∷◌, ◌++◌, T, eqb, eqb→eq, eqb_refl, arith}
use Rattle.model.specs.Base.{Answer, refused, value, ◌into◌, ◌then◌, check, Rule, checks}
use Rattle.model.specs.Report.{same_bytes}
use Rattle.model.proofs.BoolLaws.{both, and_left, and_right}

-- the answer is a value
pub record Passed {A : Type 0} (m : Answer A) : Type 0 where
  pub got : A
  pub is : m ≡ value got

pub not_refused : {A : Type 0} {n : ℕ} {a : A} → refused n ≡ value a → ⊥
not_refused p = let z : ◌≡◌ {A = ℕ} 0 1 = cc in omega arith

pub value_inj : {A : Type 0} {a b : A} → value a ≡ value b → a ≡ b
value_inj p = cc

pub then-first : {A B : Type 0} (m : Answer A) (n : Answer B) {b : B} → (m then n) ≡ value b → Passed m
then-first (refused k) n p = absurd (not_refused p)
then-first (value a) n p = record { got = a; is = refl }

pub then-second : {A B : Type 0} (m : Answer A) (n : Answer B) {b : B} → (m then n) ≡ value b → n ≡ value b
then-second (refused k) n p = absurd (not_refused p)
then-second (value a) n p = p

pub record Steps {A B : Type 0} (m : Answer A) (f : A → Answer B) (b : B) : Type 0 where
  pub got : A
  pub first : m ≡ value got
  pub second : f got ≡ value b

pub steps : {A B : Type 0} (m : Answer A) (f : A → Answer B) {b : B} → (m into f) ≡ value b → Steps m f b
steps (refused k) f p = absurd (not_refused p)
steps (value a) f p = record { got = a; first = refl; second = p }

pub check-passed : (n : ℕ) (c : Bool) → Passed (check n c) → T c
check-passed n true p = tt
check-passed n false p = absurd (not_refused p.is)

pub check-true : (n : ℕ) (c : Bool) → T c → check n c ≡ value tt
check-true n true t = refl
check-true n false t = absurd t

-- Rules that all pass
abbrev pub AllPass : List Rule → Type 0
AllPass [] = Unit {0}
AllPass (r ∷ rs) = T r.1 × AllPass rs

pub checks→ : (rs : List Rule) → Passed (checks rs) → AllPass rs
checks→ [] p = tt
checks→ (r ∷ rs) p = (
  check-passed r.0 r.1 (then-first (check r.0 r.1) (checks rs) p.is),
  checks→ rs (record { got = p.got; is = then-second (check r.0 r.1) (checks rs) p.is }),
)

pub →checks : (rs : List Rule) → AllPass rs → checks rs ≡ value tt
→checks [] p = refl
→checks (r ∷ rs) p = rw (check-true r.0 r.1 p.0) (→checks rs p.1)

pub pass_first : (xs ys : List Rule) → AllPass (xs ++ ys) → AllPass xs
pass_first [] ys p = tt
pass_first (x ∷ xs) ys p = (p.0, pass_first xs ys p.1)

pub pass_second : (xs ys : List Rule) → AllPass (xs ++ ys) → AllPass ys
pass_second [] ys p = p
pass_second (x ∷ xs) ys p = pass_second xs ys p.1

pub pass_both : (xs ys : List Rule) → AllPass xs → AllPass ys → AllPass (xs ++ ys)
pass_both [] ys p q = q
pass_both (x ∷ xs) ys p q = (p.0, pass_both xs ys p.1 q)

-- rules after rules
pub checks-both : (xs ys : List Rule) → checks (xs ++ ys) ≡ (checks xs then checks ys)
checks-both [] ys = refl
checks-both (x ∷ xs) ys = ap (λ (a : Answer (Unit {0})). check x.0 x.1 then a) (checks-both xs ys) ∙ go (check x.0 x.1)
  where
    go : (a : Answer (Unit {0})) → (a then (checks xs then checks ys)) ≡ (a then checks xs then checks ys)
    go (refused n) = refl
    go (value u) = refl

-- Bytes that are the same
pub same_refl : (xs : List ℕ) → T (same_bytes xs xs)
same_refl [] = tt
same_refl (x ∷ xs) = both (eqb x x) (same_bytes xs xs) (eqb_refl x) (same_refl xs)

pub same→ : (xs ys : List ℕ) → T (same_bytes xs ys) → xs ≡ ys
same→ [] [] t = refl
same→ [] (y ∷ ys) t = absurd t
same→ (x ∷ xs) [] t = absurd t
same→ (x ∷ xs) (y ∷ ys) t =
    ap₂ (λ a r. a ∷ r) (eqb→eq x y (and_left (eqb x y) (same_bytes xs ys) t)) (same→ xs ys (and_right (eqb x y) (same_bytes xs ys) t))

-- what a `?` returns where it ends the function: the refusal that it met
pub exit : {A : Type 0} (w : Refusal) (r : Result A Refusal) → IsErrAnd r (λ v. v ≡ w) → r ≡ Err w
exit w r q = let p = err_from_is_err_and r q in p.1 ∙ ap Err p.2
