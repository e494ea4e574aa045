-- What two sound lists of runs have in common: the runs of the numbers that lie in both.
use Rattle.model.proofs.Prelude.{ℕ, ◌≤◌, ◌<◌, ◌+◌, min, max, ◌≡◌, ◌∙◌, ap, refl, sym, ap₂, true, Bool, false, ◌&&◌, ◌||◌, and-false, List, [], ◌∷◌}
use Rattle.model.proofs.Prelude.{◌++◌, arith, le-leb, lt-leb, lt-ltb, le-ltb}
use Rattle.model.specs.Runs.{Run, Separated, runs_among, run}
use Rattle.model.proofs.BoolLaws.{cases}
use Rattle.model.proofs.RunLaws.{separated_weaken}
use Rattle.run_lists.specs.RunLists.{Sound}
use Rattle.run_lists.proofs.MemberLaws.{inside, member, member-in, inside-in, inside-lt, inside-gt, below, runs_of-unique}
use Rattle.run_lists.proofs.RunCutLaws.{member-append}
use Rattle.run_intersection.specs.Meets.{overlap, meet_into, meets, in_both}

module _ (x y : Run) where
  abbrev both : Run
  both = run (max x.low y.low) (min x.high y.high)

  pub overlap-one : both.low ≤ both.high → overlap x y ≡ both ∷ []
  unfolding overlap
  overlap-one h = rw (le-leb (max x.low y.low) (min x.high y.high) h) refl

  pub overlap-none : both.high < both.low → overlap x y ≡ []
  unfolding overlap
  overlap-none h = rw (lt-leb (max x.low y.low) (min x.high y.high) h) refl

  -- a number outside one of them
  outside : (t : ℕ) → inside t both ≡ false → member t (overlap x y) ≡ false
  outside t e = cases both.low both.high
      (λ h. ap (member t) (overlap-one h) ∙ rw e refl)
      (λ h. ap (member t) (overlap-none h))

  overlap-member : (t : ℕ) → member t (overlap x y) ≡ inside t x && inside t y
  overlap-member t =
      cases x.low t
      (λ p. cases t x.high
      (λ q. cases y.low t
      (λ u. cases t y.high
      (λ v. ap (member t) (overlap-one (omega arith)) ∙ rw (inside-in t both (omega arith) (omega arith), inside-in t x p q, inside-in t y u v) refl)
      (λ v. outside t (inside-gt t both (omega arith)) ∙ sym (rw (inside-gt t y v) (and-false (inside t x)))))
      (λ u. outside t (inside-lt t both (omega arith)) ∙ sym (rw (inside-lt t y u) (and-false (inside t x)))))
      (λ q. outside t (inside-gt t both (omega arith)) ∙ sym (rw (inside-gt t x q) refl)))
      (λ p. outside t (inside-lt t both (omega arith)) ∙ sym (rw (inside-lt t x p) refl))

-- the two ways to go on
pub meet_first : (x y : Run) (f : List Run → List Run) (ys : List Run) → x.high < y.high → meet_into x f (y ∷ ys) ≡ overlap x y ++ f (y ∷ ys)
meet_first x y f ys h = rw (lt-ltb x.high y.high h) refl

pub meet_second : (x y : Run) (f : List Run → List Run) (ys : List Run) → y.high ≤ x.high → meet_into x f (y ∷ ys) ≡ overlap x y ++ meet_into x f ys
meet_second x y f ys h = rw (le-ltb x.high y.high h) refl

module _ (n t : ℕ) where
  meet_into-member : (la lb : ℕ) (x : Run) (xs : List Run) (f : List Run → List Run)
      → ((l : ℕ) (zs : List Run) → Separated n l zs → member t (f zs) ≡ member t xs && member t zs)
      → (ys : List Run) → Separated n la (x ∷ xs) → Separated n lb ys → member t (meet_into x f ys) ≡ member t (x ∷ xs) && member t ys
  meet_into-member la lb x xs f ih [] a b = sym (and-false (member t (x ∷ xs)))
  meet_into-member la lb x xs f ih (y ∷ ys) a b = cases y.high x.high
      (λ h.
      let rest = meet_into-member la (y.high + 2) x xs f ih ys a b.3 in
      ap (member t) (meet_second x y f ys h) ∙ member-append t (overlap x y) (meet_into x f ys)
      ∙ ap₂ (λ (p q : Bool). p || q) (overlap-member x y t) rest
      ∙ cases t y.high
      (λ u.
      let none : member t ys ≡ false = below (y.high + 2) n t ys b.3 (omega arith) in
      let less : member t xs ≡ false = below (x.high + 2) n t xs a.3 (omega arith) in
      rw (none, less) (kept (inside t x) (inside t y)))
      (λ u. rw (inside-gt t y u) (passed (inside t x) (member t xs) (member t ys))))
      (λ h.
      ap (member t) (meet_first x y f ys h) ∙ member-append t (overlap x y) (f (y ∷ ys))
      ∙ ap₂ (λ (p q : Bool). p || q) (overlap-member x y t) (ih lb (y ∷ ys) b)
      ∙ cases t x.high
      (λ u.
      let none : member t ys ≡ false = below (y.high + 2) n t ys b.3 (omega arith) in
      let less : member t xs ≡ false = below (x.high + 2) n t xs a.3 (omega arith) in
      rw (none, less) (only (inside t x) (inside t y)))
      (λ u. rw (inside-gt t x u) refl))
    where
      kept : (p q : Bool) → ((p && q) || ((p || false) && false)) ≡ (p || false) && (q || false)
      kept true true = refl
      kept true false = refl
      kept false q = refl

      only : (p q : Bool) → ((p && q) || (false && (q || false))) ≡ (p || false) && (q || false)
      only true true = refl
      only true false = refl
      only false q = refl

      passed : (p m l : Bool) → ((p && false) || ((p || m) && l)) ≡ (p || m) && (false || l)
      passed true m l = refl
      passed false m l = refl

  pub meets-member : (la lb : ℕ) (xs ys : List Run) → Separated n la xs → Separated n lb ys → member t (meets xs ys) ≡ member t xs && member t ys
  meets-member la lb [] ys a b = refl
  meets-member la lb (x ∷ xs) ys a b =
      meet_into-member la lb x xs (λ zs. meets xs zs) (λ l zs c. meets-member (x.high + 2) l xs zs a.3 c) ys a b

-- they are apart as the lists are
module _ (n : ℕ) where
  ahead : (l : ℕ) (x y : Run) (rest : List Run) → l ≤ max x.low y.low → min x.high y.high ≤ n
      → Separated n (min x.high y.high + 2) rest → Separated n l rest → Separated n l (overlap x y ++ rest)
  ahead l x y rest h m s w = cases (max x.low y.low) (min x.high y.high)
      (λ k. rw (overlap-one x y k) (h, k, m, s))
      (λ k. rw (overlap-none x y k) w)

  meet_into-sound : (la lb : ℕ) (x : Run) (xs : List Run) (f : List Run → List Run)
      → ((l : ℕ) (zs : List Run) → Separated n l zs → Separated n (max (x.high + 2) l) (f zs))
      → (ys : List Run) → Separated n la (x ∷ xs) → Separated n lb ys → Separated n (max la lb) (meet_into x f ys)
  meet_into-sound la lb x xs f ih [] a b = tt
  meet_into-sound la lb x xs f ih (y ∷ ys) a b = cases y.high x.high
      (λ h.
      let rest : Separated n (max la (y.high + 2)) (meet_into x f ys) = meet_into-sound la (y.high + 2) x xs f ih ys a b.3 in
      rw (meet_second x y f ys h)
      (ahead (max la lb) x y (meet_into x f ys) (omega (arith, a.0, b.0)) (omega (arith, a.2))
      (separated_weaken n (max la (y.high + 2)) (min x.high y.high + 2) (meet_into x f ys) (omega arith) rest)
      (separated_weaken n (max la (y.high + 2)) (max la lb) (meet_into x f ys) (omega (arith, b.0, b.1)) rest)))
      (λ h.
      let rest : Separated n (max (x.high + 2) lb) (f (y ∷ ys)) = ih lb (y ∷ ys) b in
      rw (meet_first x y f ys h)
      (ahead (max la lb) x y (f (y ∷ ys)) (omega (arith, a.0, b.0)) (omega (arith, a.2))
      (separated_weaken n (max (x.high + 2) lb) (min x.high y.high + 2) (f (y ∷ ys)) (omega arith) rest)
      (separated_weaken n (max (x.high + 2) lb) (max la lb) (f (y ∷ ys)) (omega (arith, a.0, a.1)) rest)))

  pub meets-sound : (la lb : ℕ) (xs ys : List Run) → Separated n la xs → Separated n lb ys → Separated n (max la lb) (meets xs ys)
  meets-sound la lb [] ys a b = tt
  meets-sound la lb (x ∷ xs) ys a b =
      meet_into-sound la lb x xs (λ zs. meets xs zs) (λ l zs c. meets-sound (x.high + 2) l xs zs a.3 c) ys a b

-- What two lists of runs have in common is the list of the runs of the numbers in both
pub meets-runs : (n : ℕ) (xs ys : List Run) → Sound n xs → Sound n ys → meets xs ys ≡ runs_among (in_both xs ys) n
meets-runs n xs ys a b =
    runs_of-unique (in_both xs ys) n (meets xs ys)
    (separated_weaken n (max 1 1) 1 (meets xs ys) (omega arith) (meets-sound n 1 1 xs ys a b))
    (λ t h k. meets-member n t 1 1 xs ys a b ∙ ap₂ (λ (p q : Bool). p && q) (member-in t xs) (member-in t ys))
