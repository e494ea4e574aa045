-- The runs that a report names, in the bytes that hold them.
use Rattle.model.proofs.Prelude.{ℕ, ◌≤◌, ◌<◌, ◌+◌, ◌-◌, ◌*◌, suc, zero, ◌/◌, min, ◌≡◌, ◌∙◌, ap, refl, sym, ap₂, List, [], ◌∷◌, length, drop, take}
use Rattle.model.proofs.Prelude.{length-drop, length-take-le, min-eq_left, min-eq_right, arith}
use native.Mathlib.Nat.{min-le_right, zero-min}
use lib.Seq.{take-take}
use Rattle.model.specs.Base.{field, from_little_endian}
use Rattle.model.specs.Path.{Edge, rising, falling}
use Rattle.model.specs.Runs.{Run}
use Rattle.model.specs.Report.{runs_in, named_runs}
use Rattle.model.proofs.ListLaws.{drop-take}
use Rattle.report_runs.specs.ReportRuns.{runs_of_bytes, whole_runs, stated_runs, StatedLength}

module _ (m : ℕ) (xs : List ℕ) where
  low-taken : field 0 8 (take (16 + m) xs) ≡ field 0 8 xs
  low-taken = ap from_little_endian (take-take 8 (16 + m) xs (omega arith))

  high_taken : field 8 8 (take (16 + m) xs) ≡ field 8 8 xs
  high_taken =
      let e : 16 + m ≡ 8 + (8 + m) = omega arith in
      ap (λ (k : ℕ). field 8 8 (take k xs)) e
      ∙ ap (λ (z : List ℕ). from_little_endian (take 8 z)) (drop-take 8 (8 + m) xs)
      ∙ ap from_little_endian (take-take 8 (8 + m) (drop 8 xs) (omega arith))

-- the first runs are in the first bytes
runs_taken : (n : ℕ) (xs : List ℕ) → runs_in (take (16 * n) xs) n ≡ runs_in xs n
unfolding runs_in
runs_taken zero xs = refl
runs_taken (suc n) xs =
    let e : 16 * suc n ≡ 16 + 16 * n = omega arith in
    ap (λ (k : ℕ). runs_in (take k xs) (suc n)) e
    ∙ ap₂ (λ (r : Run) (rs : List Run). r ∷ rs)
    (ap₂ (λ (a b : ℕ). record { low = a; high = b }) (low-taken (16 * n) xs) (high_taken (16 * n) xs))
    (ap (λ (z : List ℕ). runs_in z n) (drop-take 16 (16 * n) xs) ∙ runs_taken n (drop 16 xs))

whole-runs : (n : ℕ) (xs : List ℕ) → 16 * n ≤ length xs → runs_of_bytes (take (16 * n) xs) ≡ runs_in xs n
unfolding runs_of_bytes
whole-runs n xs h =
    let l : length (take (16 * n) xs) ≡ 16 * n = length-take-le (16 * n) xs h in
    let e : length (take (16 * n) xs) / 16 ≡ n = omega (arith, l) in
    ap (runs_in (take (16 * n) xs)) e ∙ runs_taken n xs

-- as many runs as are stated from `at` on, of those that lie whole within the report
part-runs : (report bs : List ℕ) (at n : ℕ) → bs ≡ take (16 * min n ((length report - at) / 16)) (drop at report)
    → runs_of_bytes bs ≡ whole_runs report at n
part-runs report bs at n e =
    let m : min n ((length report - at) / 16) ≤ (length report - at) / 16 = min-le_right n ((length report - at) / 16) in
    let l : 16 * min n ((length report - at) / 16) ≤ length (drop at report) = simp length-drop (omega (arith, m)) in
    ap runs_of_bytes e ∙ whole-runs (min n ((length report - at) / 16)) (drop at report) l

pub rising_part : (report bs : List ℕ) (n : ℕ) → n ≡ field 14 2 report
    → bs ≡ take (16 * min n ((length report - 34) / 16)) (drop 34 report) → runs_of_bytes bs ≡ stated_runs report rising
unfolding stated_runs
rising_part report bs n e f = part-runs report bs 34 n f ∙ ap (whole_runs report 34) e

pub falling-part : (report bs : List ℕ) (m n : ℕ) → m ≡ field 14 2 report → n ≡ field 16 2 report
    → bs ≡ take (16 * min n ((length report - (34 + 16 * m)) / 16)) (drop (34 + 16 * m) report)
    → runs_of_bytes bs ≡ stated_runs report falling
unfolding stated_runs
falling-part report bs m n d e f =
    part-runs report bs (34 + 16 * m) n f ∙ ap₂ (λ (i j : ℕ). whole_runs report (34 + 16 * i) j) d e

no-runs : (xs : List ℕ) → runs_in xs 0 ≡ []
unfolding runs_in
no-runs xs = refl

-- a report that ends before its falling runs has none
pub falling-cut : (report bs : List ℕ) (m : ℕ) → m ≡ field 14 2 report → length report < 34 + 16 * m
    → bs ≡ take (16 * min 0 ((length report - 34) / 16)) (drop 34 report) → runs_of_bytes bs ≡ stated_runs report falling
unfolding stated_runs
falling-cut report bs m d h f =
    let none : min (field 16 2 report) ((length report - (34 + 16 * field 14 2 report)) / 16) ≡ 0 =
    min-eq_right (omega arith) ∙ omega (arith, d) in
    part-runs report bs 34 0 f
    ∙ ap (runs_in (drop 34 report)) (zero-min ((length report - 34) / 16))
    ∙ no-runs (drop 34 report)
    ∙ sym (ap (runs_in (drop (34 + 16 * field 14 2 report) report)) none ∙ no-runs (drop (34 + 16 * field 14 2 report) report))

-- in a report of the length that its fields state these are the runs that it names
pub stated-named : (report : List ℕ) → StatedLength report → (d : Edge) → stated_runs report d ≡ named_runs report d
unfolding stated_runs named_runs
stated-named report s rising = ap (runs_in (drop 34 report)) (min-eq_left (omega arith))
stated-named report s falling = ap (runs_in (drop (34 + 16 * field 14 2 report) report)) (min-eq_left (omega arith))
