-- Whether runs ascend, run by run: with one run more at the end they still do, or that run is the first out of order.
use Rattle.model.proofs.Prelude.{ℕ, ◌≤◌, ◌<◌, ◌+◌, ◌*◌, ◌/◌, ◌≡◌, ◌∙◌, ap, refl, sym, subst, ⊎_elim, true, Bool, false, ◌&&◌, not, and-false}
use Rattle.model.proofs.Prelude.{true≢false, List, [], ◌∷◌, ◌++◌, length, take, take_all, leb, leb→le, ltb, arith, le-leb, lt-leb, ne_eqb, eq-eqb}
use Rattle.model.proofs.Prelude.{not-true, not-false, lt-ltb, le-ltb}
use Rattle.model.specs.Base.{field}
use Rattle.model.specs.Runs.{Run}
use Rattle.model.proofs.BoolLaws.{and_left, and_right, true→T, le_or_lt}
use Rattle.report_runs.specs.ReportRuns.{runs_of_bytes, Ascends, Ordered, least_at_of}
use Rattle.report_runs.proofs.RunByteLaws.{run_at, run-taken, run-count}
use Rattle.std.specs.Prelude.{Err}

-- the least low of a run after ascending runs
abbrev pub least_after : ℕ → List Run → ℕ
least_after least [] = least
least_after least (r ∷ rs) = least_after (r.high + 1) rs

least-with : (least : ℕ) (rs : List Run) (r : Run) → least_after least (rs ++ (r ∷ [])) ≡ r.high + 1
least-with least [] r = refl
least-with least (q ∷ rs) r = least-with (q.high + 1) rs r

ascends-with : (least : ℕ) (rs : List Run) (r : Run) → Ascends least rs → least_after least rs ≤ r.low
    → r.low ≤ r.high → Ascends least (rs ++ (r ∷ []))
ascends-with least [] r h a b = (a, b, tt)
ascends-with least (q ∷ rs) r h a b = (h.0, h.1, ascends-with (q.high + 1) rs r h.2 a b)

ascends-last : (least : ℕ) (rs : List Run) (r : Run) → Ascends least (rs ++ (r ∷ []))
    → (least_after least rs ≤ r.low) × (r.low ≤ r.high)
ascends-last least [] r h = (h.0, h.1)
ascends-last least (q ∷ rs) r h = ascends-last (q.high + 1) rs r h.2

-- The test of one run
pub least_first : (at last : ℕ) → at ≡ 0 → least_at_of at last ≡ 0
unfolding least_at_of
least_first at last e = rw (eq-eqb at 0 e, least_at_of) refl

pub least-none : (last : ℕ) → 0 ≡ least_at_of 0 last
least-none last = sym (least_first 0 last refl)

pub least-later : (at last : ℕ) → 0 < at → least_at_of at last ≡ last + 1
unfolding least_at_of
least-later at last h = rw (ne_eqb at 0 (λ e. omega (arith, e)), least_at_of) refl

module _ (at last low high : ℕ) where
  pub empty-run : high < low → false ≡ (leb (least_at_of at last) low && leb low high)
  empty-run h = sym (rw (lt-leb low high h) (and-false (leb (least_at_of at last) low)))

  pub first_run : at ≡ 0 → low ≤ high → true ≡ (leb (least_at_of at last) low && leb low high)
  first_run e h = sym (rw (least_first at last e, le-leb 0 low (omega arith), le-leb low high h) refl)

  pub later-run : 0 < at → low ≤ high → ltb last low ≡ (leb (least_at_of at last) low && leb low high)
  later-run l h = ⊎_elim (λ a. not_over a) (λ a. over a) (le_or_lt low last)
    where
      not_over : low ≤ last → ltb last low ≡ (leb (least_at_of at last) low && leb low high)
      not_over a = rw (least-later at last l, le-ltb last low a, lt-leb (last + 1) low (omega arith)) refl

      over : last < low → ltb last low ≡ (leb (least_at_of at last) low && leb low high)
      over a =
          rw (least-later at last l, lt-ltb last low a, le-leb (last + 1) low (omega arith), le-leb low high h) refl

-- Runs of which those before place `at` ascend
module _ (bs : List ℕ) (at last : ℕ) (up : Ascends 0 (take at (runs_of_bytes bs))) (least : least_after 0 (take at (runs_of_bytes bs)) ≡ least_at_of at last)
    (h : at < length bs / 16) (low high : ℕ) (e : low ≡ field (16 * at) 8 bs) (f : high ≡ field (16 * at + 8) 8 bs) where
  pub one_more : (b : Bool) → b ≡ (leb (least_at_of at last) low && leb low high) → not b ≡ false
      → Ascends 0 (take (at + 1) (runs_of_bytes bs))
  one_more b g s =
      let t : (leb (least_at_of at last) low && leb low high) ≡ true = sym g ∙ not-false b s in
      let above : least_at_of at last ≤ low =
      leb→le (least_at_of at last) low (and_left (leb (least_at_of at last) low) (leb low high) (true→T _ t)) in
      let ordered : low ≤ high = leb→le low high (and_right (leb (least_at_of at last) low) (leb low high) (true→T _ t)) in
      subst (λ (rs : List Run). Ascends 0 rs) (sym (run-taken bs at h))
      (ascends-with 0 (take at (runs_of_bytes bs)) (run_at bs at) up (omega (arith, e, least)) (omega (arith, e, f)))

  pub least_more : least_after 0 (take (at + 1) (runs_of_bytes bs)) ≡ least_at_of (at + 1) high
  least_more =
      ap (least_after 0) (run-taken bs at h)
      ∙ least-with 0 (take at (runs_of_bytes bs)) (run_at bs at)
      ∙ omega (arith, f, least-later (at + 1) high (omega arith))

  pub out_of_order : (b : Bool) → b ≡ (leb (least_at_of at last) low && leb low high) → not b ≡ true
      → Ordered (Err at) (runs_of_bytes bs)
  out_of_order b g s =
      let t : (leb (least_at_of at last) low && leb low high) ≡ false = sym g ∙ not-true b s in (
        omega (arith, run-count bs),
        up,
        λ a.
            let l =
            ascends-last 0 (take at (runs_of_bytes bs)) (run_at bs at) (subst (λ (rs : List Run). Ascends 0 rs) (run-taken bs at h) a) in
            let above : least_at_of at last ≤ low = omega (arith, e, least, l.0) in
            let ordered : low ≤ high = omega (arith, e, f, l.1) in
            let clash : true ≡ false =
            sym (rw (le-leb (least_at_of at last) low above, le-leb low high ordered) refl) ∙ t in
            true≢false clash,
      )

pub all-ascend : (bs : List ℕ) (at : ℕ) → length bs / 16 ≤ at → Ascends 0 (take at (runs_of_bytes bs))
    → Ascends 0 (runs_of_bytes bs)
all-ascend bs at h up =
    subst (λ (rs : List Run). Ascends 0 rs) (take_all at (runs_of_bytes bs) (omega (arith, run-count bs))) up
