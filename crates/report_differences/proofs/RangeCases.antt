-- Whether a number is in the runs of `a` only, from where it stands among both; then from step to step.
use Rattle.model.proofs.Prelude.{ℕ, ◌≤◌, ◌<◌, ◌+◌, ◌-◌, ◌≡◌, refl, subst, ⊎_elim, true, false, and-false, List, arith}
use Rattle.model.specs.Runs.{in_runs}
use Rattle.model.proofs.BoolLaws.{le_or_lt}
use Rattle.report_runs.specs.ReportRuns.{runs_of_bytes}
use Rattle.report_differences.specs.Differences.{only, Stands, Steps, FirstOnly, LastOnly, FirstFrom, PieceFrom}
use Rattle.report_differences.specs.declared.inner.walk.Standing.{Standing}
use Rattle.report_differences.specs.declared.inner.walk.Standing.TheVariants as standing
use Rattle.report_differences.specs.declared.inner.walk.Step.{Step}
use Rattle.report_differences.specs.declared.inner.walk.Step.TheVariants as step
use Rattle.std.specs.Prelude.{Option, Some, None}
use Rattle.report_differences.specs.declared.inner.walk.FaultRange.{FaultRange}

module _ (a b : List ℕ) (k : ℕ) where
  in_a-only : in_runs (runs_of_bytes a) k ≡ true → in_runs (runs_of_bytes b) k ≡ false → only a b k ≡ true
  unfolding only
  in_a-only p q = rw (p, q) refl

  not_in_a : in_runs (runs_of_bytes a) k ≡ false → only a b k ≡ false
  unfolding only
  not_in_a p = rw p refl

  in_b : in_runs (runs_of_bytes b) k ≡ true → only a b k ≡ false
  unfolding only
  in_b q = rw q (and-false (in_runs (runs_of_bytes a) k))

abbrev stands-as : (x y : Standing) (n : ℕ) (bs : List ℕ) → x ≡ y → Stands x n (runs_of_bytes bs)
    → Stands y n (runs_of_bytes bs)
stands-as x y n bs e s = subst (λ (z : Standing). Stands z n (runs_of_bytes bs)) e s

module _ (a b : List ℕ) (n : ℕ) (x : Standing) (s : Stands x n (runs_of_bytes a)) where
  pub past-a : x ≡ standing.Past → Steps step.End a b n
  past-a e = λ k h l. not_in_a a b k (stands-as x standing.Past n a e s k h)

  pub before-a : (next : ℕ) → x ≡ standing.Before next → Steps (step.Not next) a b n
  before-a next e =
      let t : Stands (standing.Before next) n (runs_of_bytes a) = stands-as x (standing.Before next) n a e s in
      (t.0, λ k h l. not_in_a a b k (t.1 k h l))

  module _ (end : ℕ) (e : x ≡ standing.Inside end) (y : Standing) (u : Stands y n (runs_of_bytes b)) where
    inside : Stands (standing.Inside end) n (runs_of_bytes a)
    inside = stands-as x (standing.Inside end) n a e s

    pub past-b : y ≡ standing.Past → Steps (step.Only end) a b n
    past-b f = (inside.0, λ k h l. in_a-only a b k (inside.1 k h l) (stands-as y standing.Past n b f u k h))

    pub before-far : (next : ℕ) → y ≡ standing.Before next → end < next → Steps (step.Only end) a b n
    before-far next f g =
        let t : Stands (standing.Before next) n (runs_of_bytes b) = stands-as y (standing.Before next) n b f u in
        (inside.0, λ k h l. in_a-only a b k (inside.1 k h l) (t.1 k h (omega arith)))

    pub before-near : (next : ℕ) → y ≡ standing.Before next → next ≤ end → Steps (step.Only (next - 1)) a b n
    before-near next f g =
        let t : Stands (standing.Before next) n (runs_of_bytes b) = stands-as y (standing.Before next) n b f u in
        let i : n < next = t.0 in
        (omega arith, λ k h l. in_a-only a b k (inside.1 k h (omega arith)) (t.1 k h (omega arith)))

    pub inside-all : (last : ℕ) → y ≡ standing.Inside last → last ≡ 18446744073709551615 → Steps step.End a b n
    inside-all last f g =
        let t : Stands (standing.Inside last) n (runs_of_bytes b) = stands-as y (standing.Inside last) n b f u in
        λ k h l. in_b a b k (t.1 k h (omega arith))

    pub inside-b : (last : ℕ) → y ≡ standing.Inside last → Steps (step.Not (last + 1)) a b n
    inside-b last f =
        let t : Stands (standing.Inside last) n (runs_of_bytes b) = stands-as y (standing.Inside last) n b f u in
        let i : n ≤ last = t.0 in
        (omega arith, λ k h l. in_b a b k (t.1 k h (omega arith)))

-- a number that comes later is no zero
pub over_zero : (b : List ℕ) (n : ℕ) (y : Standing) → Stands y n (runs_of_bytes b) → (next : ℕ) → y ≡ standing.Before next
    → 1 ≤ next
over_zero b n y u next f =
    let t : Stands (standing.Before next) n (runs_of_bytes b) = stands-as y (standing.Before next) n b f u in
    let i : n < next = t.0 in
    omega arith

abbrev steps-as : (x y : Step) (n : ℕ) (a b : List ℕ) → x ≡ y → Steps x a b n → Steps y a b n
steps-as x y n a b e s = subst (λ (z : Step). Steps z a b n) e s

-- what holds below `n`, and from `n` below `m`, holds below `m`
joined : (P : ℕ → Type 0) (from n m : ℕ) → ((k : ℕ) → from ≤ k → k < n → P k) → ((k : ℕ) → n ≤ k → k < m → P k)
    → (k : ℕ) → from ≤ k → k < m → P k
joined P from n m f g k h l = ⊎_elim (λ i. g k i l) (λ i. f k h i) (le_or_lt n k)

pub first-start : (a b : List ℕ) (from : ℕ) → (from ≤ from) × ((k : ℕ) → from ≤ k → k < from → only a b k ≡ false)
first-start a b from = (omega arith, λ k h l. absurd (omega arith))

-- The search for the first: no number from `from` to below `n` is in `a` only
module _ (a b : List ℕ) (from n : ℕ) (h : from ≤ n) (f : (k : ℕ) → from ≤ k → k < n → only a b k ≡ false) (x : Step) (s : Steps x a b n) where
  pub first_found : (end : ℕ) → x ≡ step.Only end → FirstOnly (Some n) a b from
  first_found end e =
      let t : Steps (step.Only end) a b n = steps-as x (step.Only end) n a b e s in
      (h, f, t.1 n (omega arith) t.0)

  pub first-later : (next : ℕ) → x ≡ step.Not next
      → (n < next) × (from ≤ next) × ((k : ℕ) → from ≤ k → k < next → only a b k ≡ false)
  first-later next e =
      let t : Steps (step.Not next) a b n = steps-as x (step.Not next) n a b e s in
      let i : n < next = t.0 in
      (i, omega arith, joined (λ k. only a b k ≡ false) from n next f t.1)

  pub first-none : x ≡ step.End → FirstOnly None a b from
  first-none e =
      let t : Steps step.End a b n = steps-as x step.End n a b e s in
      λ k i l. ⊎_elim (λ j. t k j l) (λ j. f k i j) (le_or_lt n k)

pub last-start : (a b : List ℕ) (low : ℕ) → only a b low ≡ true
    → (low ≤ low) × ((k : ℕ) → low ≤ k → k ≤ low → only a b k ≡ true)
last-start a b low e = (omega arith, λ k h l. let z : low ≡ k = omega arith in subst (λ (i : ℕ). only a b i ≡ true) z e)

-- The search for the last: every number from `low` to `high` is in `a` only
module _ (a b : List ℕ) (low high : ℕ) (h : low ≤ high) (f : (k : ℕ) → low ≤ k → k ≤ high → only a b k ≡ true) where
  module _ (x : Step) (s : Steps x a b (high + 1)) where
    pub last-later : (end : ℕ) → x ≡ step.Only end
        → (high < end) × (low ≤ end) × ((k : ℕ) → low ≤ k → k ≤ end → only a b k ≡ true)
    last-later end e =
        let t : Steps (step.Only end) a b (high + 1) = steps-as x (step.Only end) (high + 1) a b e s in
        let i : high + 1 ≤ end = t.0 in
        (omega arith, omega arith, λ k p q. ⊎_elim (λ j. f k p j) (λ j. t.1 k (omega arith) q) (le_or_lt k high))

    pub last-before : (next : ℕ) → x ≡ step.Not next → LastOnly high a b low
    last-before next e =
        let t : Steps (step.Not next) a b (high + 1) = steps-as x (step.Not next) (high + 1) a b e s in
        (h, f, λ l. t.1 (high + 1) (omega arith) t.0)

    pub last_end : x ≡ step.End → LastOnly high a b low
    last_end e =
        let t : Steps step.End a b (high + 1) = steps-as x step.End (high + 1) a b e s in
        (h, f, λ l. t (high + 1) (omega arith) l)

  pub last-number : 18446744073709551615 ≤ high → LastOnly high a b low
  last-number g = (h, f, λ l. absurd (omega arith))

-- The range: its first number, then its last
module _ (i j : ℕ) (a b : List ℕ) (from : ℕ) where
  pub start-as : (x y : Option ℕ) → FirstFrom x i j a b from → x ≡ y → FirstFrom y i j a b from
  start-as x y s e = subst (λ (z : Option ℕ). FirstFrom z i j a b from) e s

  pub piece-as : (x y : Option FaultRange) → PieceFrom x i j a b from → x ≡ y → PieceFrom y i j a b from
  piece-as x y s e = subst (λ (z : Option FaultRange). PieceFrom z i j a b from) e s
