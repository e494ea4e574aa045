-- Whether every number in some runs is in others.
use Rattle.model.proofs.Prelude.{ℕ, ◌≤◌, ◌<◌, ◌+◌, ◌-◌, suc, ◌^◌, zero, ◌/◌, ◌≡◌, subst, inl, inr, Bool, List, [], ◌∷◌, length, get_or, drop, take}
use Rattle.model.proofs.Prelude.{get_or-drop, T, arith}
use native.Mathlib.Nat.{pow-succ', one-le-pow}
use Rattle.model.specs.Base.{all_of, numbers_from, from_little_endian}
use Rattle.model.specs.Runs.{Run, in_runs}
use Rattle.model.specs.Report.{runs_in}
use Rattle.model.proofs.BoolLaws.{both, and_left, and_right}
use Rattle.model.proofs.ListLaws.{all_of_at, length-numbers_from, numbers_from-at}
use Rattle.model.proofs.RunLaws.{In, in→, →in}
use Rattle.report_runs.specs.ReportRuns.{runs_of_bytes}
use Rattle.report_differences.specs.FirstClaim.{each_held_of}

-- the test passes for all of the numbers from `k` on, `n` of them
all_pass : (f : ℕ → Bool) (n k : ℕ) → ((j : ℕ) → k ≤ j → j < k + n → T (f j)) → T (all_of f (numbers_from k n))
all_pass f zero k h = tt
all_pass f (suc n) k h =
    both (f k) (all_of f (numbers_from (suc k) n)) (h k (omega arith) (omega arith)) (all_pass f n (suc k) (λ j a b. h j (omega arith) (omega arith)))

one_passes : (f : ℕ → Bool) (n k j : ℕ) → T (all_of f (numbers_from k n)) → k ≤ j → j < k + n → T (f j)
one_passes f n k j t a b =
    let e : get_or (numbers_from k n) (j - k) 0 ≡ k + (j - k) = numbers_from-at n k (j - k) (omega arith) in
    let l : j - k < length (numbers_from k n) = omega (arith, length-numbers_from k n) in
    let z : get_or (numbers_from k n) (j - k) 0 ≡ j = omega (arith, e) in
    subst (λ (i : ℕ). T (f i)) z (all_of_at f (numbers_from k n) 0 t (j - k) l)

pub each-pass : (rs held : List Run) → ((k : ℕ) → T (in_runs rs k) → T (in_runs held k)) → T (each_held_of rs held)
each-pass [] held h = tt
each-pass (r ∷ rs) held h =
    both (all_of (in_runs held) (numbers_from r.low (suc r.high - r.low))) (each_held_of rs held)
    (all_pass (in_runs held) (suc r.high - r.low) r.low (λ j a b. h j (→in (r ∷ rs) j (inl (a, omega arith)))))
    (each-pass rs held (λ k t. h k (→in (r ∷ rs) k (inr (in→ rs k t)))))

pub one-held : (rs held : List Run) (k : ℕ) → T (each_held_of rs held) → In rs k → T (in_runs held k)
one-held [] held k t i = absurd i
one-held (r ∷ rs) held k t (inl i) =
    one_passes (in_runs held) (suc r.high - r.low) r.low k
    (and_left (all_of (in_runs held) (numbers_from r.low (suc r.high - r.low))) (each_held_of rs held) t) i.0 (omega arith)
one-held (r ∷ rs) held k t (inr i) =
    one-held rs held k (and_right (all_of (in_runs held) (numbers_from r.low (suc r.high - r.low))) (each_held_of rs held) t) i

-- A number in the runs of bytes has eight bytes
bytes_below : (n : ℕ) (bs : List ℕ) → ((i : ℕ) → get_or bs i 0 < 256) → from_little_endian (take n bs) < 256 ^ n
bytes_below zero bs b = omega arith
bytes_below (suc n) [] b = omega (arith, one-le-pow (suc n) 256 (omega arith))
bytes_below (suc n) (x ∷ xs) b = rw (pow-succ' 256 n) (omega (arith, b 0, bytes_below n xs (λ i. b (suc i))))

later : (n : ℕ) (bs : List ℕ) → ((i : ℕ) → get_or bs i 0 < 256) → (i : ℕ) → get_or (drop n bs) i 0 < 256
later n bs b i = rw (get_or-drop n bs i 0) (b (n + i))

in_below : (n : ℕ) (bs : List ℕ) → ((i : ℕ) → get_or bs i 0 < 256) → (k : ℕ) → In (runs_in bs n) k → k < 2 ^ 64
unfolding runs_in
in_below zero bs b k i = absurd i
in_below (suc n) bs b k (inl i) = omega (arith, i.1, bytes_below 8 (drop 8 bs) (later 8 bs b))
in_below (suc n) bs b k (inr i) = in_below n (drop 16 bs) (later 16 bs b) k i

pub run-below : (bs : List ℕ) → ((i : ℕ) → get_or bs i 0 < 256) → (k : ℕ) → In (runs_of_bytes bs) k → k < 2 ^ 64
unfolding runs_of_bytes
run-below bs b k i = in_below (length bs / 16) bs b k i
