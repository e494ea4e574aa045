-- Two lists of runs read by ascending low: added one after the other they are the runs of the union.
use Rattle.model.proofs.Prelude.{ℕ, ◌≡◌, ◌∙◌, ap, refl, sym, ap₂, true, Bool, false, ◌||◌, or-false, cond, or_assoc, List, [], ◌∷◌, leb, le_refl}
use Rattle.model.proofs.Prelude.{arith, le-leb, lt-leb}
use Rattle.model.specs.Runs.{Run, runs_among}
use Rattle.run_lists.specs.RunLists.{Sound, add_runs, in_either}
use Rattle.run_lists.proofs.MemberLaws.{inside, member, member-in, runs_of-unique}
use Rattle.model.proofs.BoolLaws.{cases, or_around}
use Rattle.run_union.specs.Unions.{left_first_of}
use Rattle.run_union.proofs.AddRunLaws.{Asc, sound-asc, add_runs-sound, add_runs-member}

-- two lists as one, by ascending low
abbrev pub merge_into : Run → List Run → (List Run → List Run) → List Run → List Run
merge_into x xs f [] = x ∷ xs
merge_into x xs f (y ∷ ys) = cond (leb x.low y.low) (x ∷ f (y ∷ ys)) (y ∷ merge_into x xs f ys)

abbrev pub interleave : List Run → List Run → List Run
interleave [] ys = ys
interleave (x ∷ xs) ys = merge_into x xs (λ zs. interleave xs zs) ys

merge_into-asc : (m n : ℕ) (x : Run) (xs : List Run) (f : List Run → List Run)
    → ((k : ℕ) (zs : List Run) → Asc k n xs → Asc k n zs → Asc k n (f zs))
    → (ys : List Run) → Asc m n (x ∷ xs) → Asc m n ys → Asc m n (merge_into x xs f ys)
merge_into-asc m n x xs f ih [] a b = a
merge_into-asc m n x xs f ih (y ∷ ys) a b = cases x.low y.low
    (λ h. rw (le-leb x.low y.low h) (a.0, a.1, a.2, ih x.low (y ∷ ys) a.3 (h, b.1, b.2, b.3)))
    (λ h. rw (lt-leb x.low y.low h) (b.0, b.1, b.2, merge_into-asc y.low n x xs f ih ys (omega arith, a.1, a.2, a.3) b.3))

pub interleave-asc : (m n : ℕ) (xs ys : List Run) → Asc m n xs → Asc m n ys → Asc m n (interleave xs ys)
interleave-asc m n [] ys a b = b
interleave-asc m n (x ∷ xs) ys a b = merge_into-asc m n x xs (λ zs. interleave xs zs) (λ k zs. interleave-asc k n xs zs) ys a b

merge_into-member : (t : ℕ) (x : Run) (xs : List Run) (f : List Run → List Run)
    → ((zs : List Run) → member t (f zs) ≡ member t xs || member t zs)
    → (ys : List Run) → member t (merge_into x xs f ys) ≡ member t (x ∷ xs) || member t ys
merge_into-member t x xs f ih [] = sym (or-false (member t (x ∷ xs)))
merge_into-member t x xs f ih (y ∷ ys) = cases x.low y.low
    (λ h. rw (le-leb x.low y.low h, ih (y ∷ ys)) (sym (or_assoc (inside t x) (member t xs) (member t (y ∷ ys)))))
    (λ h. rw (lt-leb x.low y.low h, merge_into-member t x xs f ih ys) (or_around (member t (x ∷ xs)) (inside t y) (member t ys) ∙ or_assoc (member t (x ∷ xs)) (inside t y) (member t ys)))

pub interleave-member : (t : ℕ) (xs ys : List Run) → member t (interleave xs ys) ≡ member t xs || member t ys
interleave-member t [] ys = refl
interleave-member t (x ∷ xs) ys = merge_into-member t x xs (λ zs. interleave xs zs) (interleave-member t xs) ys

pub add_runs-union : (n : ℕ) (xs ys : List Run) → Sound n xs → Sound n ys
    → add_runs [] (interleave xs ys) ≡ runs_among (in_either xs ys) n
add_runs-union n xs ys u v = runs_of-unique (in_either xs ys) n (add_runs [] (interleave xs ys))
    (add_runs-sound 1 1 n [] (interleave xs ys) tt tt (le_refl 1) asc)
    (λ t h k. add_runs-member t 1 n [] (interleave xs ys) tt asc ∙ interleave-member t xs ys ∙ ap₂ (λ (p q : Bool). p || q) (member-in t xs) (member-in t ys))
  where
    asc : Asc 1 n (interleave xs ys)
    asc = interleave-asc 1 n xs ys (sound-asc 1 1 n xs (le_refl 1) u) (sound-asc 1 1 n ys (le_refl 1) v)

-- ---- the next run

interleave-nil : (xs : List Run) → interleave xs [] ≡ xs
interleave-nil [] = refl
interleave-nil (x ∷ xs) = refl

pub interleave-left : (x : Run) (xs ys : List Run) → left_first_of (x ∷ xs) ys ≡ true → interleave (x ∷ xs) ys ≡ x ∷ interleave xs ys
interleave-left x xs [] e = ap {B = List Run} (λ t. x ∷ t) (sym (interleave-nil xs))
interleave-left x xs (y ∷ ys) e = rw e

pub interleave-right : (xs : List Run) (y : Run) (ys : List Run) → left_first_of xs (y ∷ ys) ≡ false → interleave xs (y ∷ ys) ≡ y ∷ interleave xs ys
interleave-right [] y ys e = refl
interleave-right (x ∷ xs) y ys e = rw e
