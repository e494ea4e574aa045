-- The run at a place of bytes, and the runs up to it and from it on.
use Rattle.model.proofs.Prelude.{ℕ, ◌<◌, ◌+◌, ◌*◌, suc, zero, ◌/◌, ◌≡◌, ◌∙◌, ap, refl, ap₂, List, [], ◌∷◌, ◌++◌, length, drop, take, drop-drop}
use Rattle.model.proofs.Prelude.{add-one, arith}
use Rattle.model.specs.Base.{field, from_little_endian}
use Rattle.model.specs.Runs.{Run, run}
use Rattle.model.specs.Report.{runs_in}
use Rattle.report_runs.specs.ReportRuns.{runs_of_bytes}

-- the run at a place, as the code reads it
abbrev pub run_at : List ℕ → ℕ → Run
run_at bs i = run (field (16 * i) 8 bs) (field (16 * i + 8) 8 bs)

run-shift : (i : ℕ) (bs : List ℕ) → run_at (drop 16 bs) i ≡ run_at bs (suc i)
run-shift i bs =
    let low : 16 + 16 * i ≡ 16 * suc i = omega arith in
    let high : 16 + (16 * i + 8) ≡ 16 * suc i + 8 = omega arith in
    let first : drop (16 * i) (drop 16 bs) ≡ drop (16 * suc i) bs =
    drop-drop (16 * i) 16 bs ∙ ap (λ (k : ℕ). drop k bs) low in
    let second : drop (16 * i + 8) (drop 16 bs) ≡ drop (16 * suc i + 8) bs =
    drop-drop (16 * i + 8) 16 bs ∙ ap (λ (k : ℕ). drop k bs) high in
    ap₂ (λ (x y : List ℕ). run (from_little_endian (take 8 x)) (from_little_endian (take 8 y))) first second

run_in : (n i : ℕ) (bs : List ℕ) → i < n → drop i (runs_in bs n) ≡ run_at bs i ∷ drop (suc i) (runs_in bs n)
unfolding runs_in
run_in zero i bs h = absurd (omega arith)
run_in (suc n) zero bs h = refl
run_in (suc n) (suc i) bs h =
    run_in n i (drop 16 bs) (omega arith) ∙ ap (λ (r : Run). r ∷ drop (suc i) (runs_in (drop 16 bs) n)) (run-shift i bs)

taken_in : (n i : ℕ) (bs : List ℕ) → i < n → take (suc i) (runs_in bs n) ≡ take i (runs_in bs n) ++ (run_at bs i ∷ [])
unfolding runs_in
taken_in zero i bs h = absurd (omega arith)
taken_in (suc n) zero bs h = refl
taken_in (suc n) (suc i) bs h =
    let more : take (suc i) (runs_in (drop 16 bs) n) ≡ take i (runs_in (drop 16 bs) n) ++ (run_at bs (suc i) ∷ []) =
    taken_in n i (drop 16 bs) (omega arith) ∙ ap (λ (r : Run). take i (runs_in (drop 16 bs) n) ++ (r ∷ [])) (run-shift i bs) in
    ap (λ (rs : List Run). run (field 0 8 bs) (field 8 8 bs) ∷ rs) more

module _ (bs : List ℕ) (i : ℕ) (h : i < length bs / 16) where
  pub run-at : drop i (runs_of_bytes bs) ≡ run_at bs i ∷ drop (i + 1) (runs_of_bytes bs)
  unfolding runs_of_bytes
  run-at = rw (add-one i) (run_in (length bs / 16) i bs h)

  pub run-taken : take (i + 1) (runs_of_bytes bs) ≡ take i (runs_of_bytes bs) ++ (run_at bs i ∷ [])
  unfolding runs_of_bytes
  run-taken = rw (add-one i) (taken_in (length bs / 16) i bs h)

runs-counted : (n : ℕ) (bs : List ℕ) → length (runs_in bs n) ≡ n
unfolding runs_in
runs-counted zero bs = refl
runs-counted (suc n) bs = ap suc (runs-counted n (drop 16 bs))

pub run-count : (bs : List ℕ) → length (runs_of_bytes bs) ≡ length bs / 16
unfolding runs_of_bytes
run-count bs = runs-counted (length bs / 16) bs
