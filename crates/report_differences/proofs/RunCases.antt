-- Numbers in ascending runs, and the places of runs in bytes: what stands at a place, what the runs before it hold, and whether they ascend.
use Rattle.model.proofs.Prelude.{ℕ, ◌≤◌, ◌<◌, ◌+◌, ◌*◌, suc, zero, ◌/◌, ◌≡◌, ◌∙◌, ap, refl, subst, true, false, and-false, List, [], ◌∷◌, length}
use Rattle.model.proofs.Prelude.{drop, drop_of_length-le, leb, arith, le-leb, lt-leb}
use Rattle.model.specs.Base.{field}
use Rattle.model.specs.Runs.{Run, in_runs, run}
use Rattle.report_runs.specs.ReportRuns.{runs_of_bytes, Ascends}
use Rattle.report_runs.proofs.RunByteLaws.{run_at, run-at, run-count}
use Rattle.report_differences.specs.Differences.{Passed, Reached, Stands}
use Rattle.report_differences.specs.declared.inner.walk.Standing.TheVariants as standing

-- a number in the run in front, and one below or above it
in_front : (low high k : ℕ) (rs : List Run) → low ≤ k → k ≤ high → in_runs (run low high ∷ rs) k ≡ true
unfolding in_runs
in_front low high k rs a b = rw (le-leb low k a, le-leb k high b) refl

not_below_lem : (low high k : ℕ) (rs : List Run) → k < low → in_runs (run low high ∷ rs) k ≡ in_runs rs k
unfolding in_runs
not_below_lem low high k rs a = rw (lt-leb low k a) refl

not_above_lem : (low high k : ℕ) (rs : List Run) → high < k → in_runs (run low high ∷ rs) k ≡ in_runs rs k
unfolding in_runs
not_above_lem low high k rs a = rw (lt-leb k high a, and-false (leb low k)) refl

in_none : (k : ℕ) → in_runs [] k ≡ false
unfolding in_runs
in_none k = refl

-- ascending runs hold no number below the first low
none_below : (least k : ℕ) (rs : List Run) → Ascends least rs → k < least → in_runs rs k ≡ false
none_below least k [] h l = in_none k
none_below least k (r ∷ rs) h l =
    let above : least ≤ r.low = h.0 in
    let ordered : r.low ≤ r.high = h.1 in
    not_below_lem r.low r.high k rs (omega arith) ∙ none_below (r.high + 1) k rs h.2 (omega arith)

-- runs that ascend do so from any lower number on, and from any place on
from-lower : (m n : ℕ) (rs : List Run) → m ≤ n → Ascends n rs → Ascends m rs
from-lower m n [] l h = h
from-lower m n (r ∷ rs) l h =
    let above : n ≤ r.low = h.0 in
    (omega arith, h.1, h.2)

from_place : (i least : ℕ) (rs : List Run) → Ascends least rs → Ascends least (drop i rs)
from_place zero least rs h = h
from_place (suc i) least [] h = h
from_place (suc i) least (r ∷ rs) h =
    let above : least ≤ r.low = h.0 in
    let ordered : r.low ≤ r.high = h.1 in
    from-lower least (r.high + 1) (drop i rs) (omega arith) (from_place i (r.high + 1) rs h.2)

-- the first place and any ascending runs
pub passed_none : (bs : List ℕ) (n : ℕ) → Ascends 0 (runs_of_bytes bs) → Passed bs 0 n
passed_none bs n h = (h, omega arith, λ k l. refl)

pub passed_later : (bs : List ℕ) (i m n : ℕ) → m ≤ n → Passed bs i m → Passed bs i n
passed_later bs i m n l p = (p.0, p.1, λ k h. p.2 k (omega arith))

-- a run that ends before the number is passed
pub passed-run : (bs : List ℕ) (i n high : ℕ) → i < length bs / 16 → high ≡ field (16 * i + 8) 8 bs → high < n
    → Passed bs i n → Passed bs (i + 1) n
passed-run bs i n high l e h p = (
  p.0,
  omega arith,
  λ k a. p.2 k a
      ∙ ap (λ (rs : List Run). in_runs rs k) (run-at bs i l)
      ∙ not_above_lem (field (16 * i) 8 bs) (field (16 * i + 8) 8 bs) k (drop (i + 1) (runs_of_bytes bs)) (omega (arith, e)),
)

pub reached-run : (bs : List ℕ) (i n high : ℕ) → high ≡ field (16 * i + 8) 8 bs → n ≤ high → Passed bs i n
    → Reached bs i n
reached-run bs i n high e h p = (p, λ l. omega (arith, e))

pub reached-end : (bs : List ℕ) (i n : ℕ) → length bs / 16 ≤ i → Passed bs i n → Reached bs (length bs / 16) n
reached-end bs i n h p =
    let e : i ≡ length bs / 16 = omega (arith, p.1) in
    subst (λ (j : ℕ). Reached bs j n) e (p, λ l. absurd (omega arith))

-- Where a number stands, by the run at a place that it has reached
module _ (bs : List ℕ) (i n : ℕ) (s : Reached bs i n) where
  pub past_all : length bs / 16 ≤ i → Stands standing.Past n (runs_of_bytes bs)
  past_all h =
      let none : drop i (runs_of_bytes bs) ≡ [] = drop_of_length-le (runs_of_bytes bs) {i = i} (omega (arith, run-count bs)) in
      λ k a. s.0.2 k a ∙ ap (λ (rs : List Run). in_runs rs k) none ∙ in_none k

  module _ (h : i < length bs / 16) (low : ℕ) (e : low ≡ field (16 * i) 8 bs) where
    here : (k : ℕ) → n ≤ k → in_runs (runs_of_bytes bs) k ≡ in_runs (run_at bs i ∷ drop (i + 1) (runs_of_bytes bs)) k
    here k a = s.0.2 k a ∙ ap (λ (rs : List Run). in_runs rs k) (run-at bs i h)

    pub before-run : n < low → Stands (standing.Before low) n (runs_of_bytes bs)
    before-run l =
        let rest : Ascends 0 (drop i (runs_of_bytes bs)) = from_place i 0 (runs_of_bytes bs) s.0.0 in
        let from : Ascends 0 (run_at bs i ∷ drop (i + 1) (runs_of_bytes bs)) =
        subst (λ (rs : List Run). Ascends 0 rs) (run-at bs i h) rest in
        let low_first : Ascends (field (16 * i) 8 bs) (run_at bs i ∷ drop (i + 1) (runs_of_bytes bs)) =
        (omega arith, from.1, from.2) in
        (l, λ k a b. here k a ∙ none_below (field (16 * i) 8 bs) k _ low_first (omega (arith, e)))

    pub inside-run : (high : ℕ) → high ≡ field (16 * i + 8) 8 bs → low ≤ n
        → Stands (standing.Inside high) n (runs_of_bytes bs)
    inside-run high f l =
        let ahead : n ≤ field (16 * i + 8) 8 bs = s.1 h in (
          omega (arith, f),
          λ k a b. here k a
              ∙ in_front (field (16 * i) 8 bs) (field (16 * i + 8) 8 bs) k (drop (i + 1) (runs_of_bytes bs)) (omega (arith, e)) (omega (arith, f)),
        )
