-- A list of runs cut at a run: for sums over a list and for a binary search.
use Rattle.model.proofs.Prelude.{ℕ, ◌≤◌, ◌<◌, ◌+◌, ◌-◌, suc, zero, ◌≡◌, ◌∙◌, ap, refl, sym, ap₂, true, false, ◌||◌, or-false, or_assoc, List, [], ◌∷◌}
use Rattle.model.proofs.Prelude.{◌++◌, drop, take, arith}
use mathlib.Core.Bool.{or-true}
use Rattle.model.specs.Runs.{Run, Separated}
use Rattle.model.proofs.RunLaws.{separated_weaken}
use Rattle.run_lists.specs.RunLists.{run_at, runs_in_words}
use Rattle.run_lists.proofs.MemberLaws.{inside, member, inside-in, inside-lt, inside-gt, below}
use Rattle.run_lists.proofs.RunWordLaws.{runs-next}

pub member-append : (x : ℕ) (s t : List Run) → member x (s ++ t) ≡ member x s || member x t
member-append x [] t = refl
member-append x (r ∷ s) t = rw (member-append x s t) (sym (or_assoc (inside x r) (member x s) (member x t)))

pub low-ge : (b n : ℕ) (s : List Run) (r : Run) (t : List Run) → Separated n b (s ++ r ∷ t) → b ≤ r.low
low-ge b n [] r t u = u.0
low-ge b n (c ∷ s) r t u = omega (arith, low-ge (c.high + 2) n s r t u.3)

-- the parts are sound
pub sound-left : (b n : ℕ) (s t : List Run) → Separated n b (s ++ t) → Separated n b s
sound-left b n [] t u = tt
sound-left b n (c ∷ s) t u = (u.0, u.1, u.2, sound-left (c.high + 2) n s t u.3)

at_cut : (b n : ℕ) (s : List Run) (r : Run) (t : List Run) → Separated n b (s ++ r ∷ t) → Separated n b (r ∷ t)
at_cut b n [] r t u = u
at_cut b n (c ∷ s) r t u = separated_weaken n (c.high + 2) b (r ∷ t) (omega arith) (at_cut (c.high + 2) n s r t u.3)

pub sound-right : (b n : ℕ) (s : List Run) (r : Run) (t : List Run) → Separated n b (s ++ r ∷ t) → Separated n b t
sound-right b n s r t u = let v = at_cut b n s r t u in separated_weaken n (r.high + 2) b t (omega arith) v.3

none_before : (b n x : ℕ) (s : List Run) (r : Run) (t : List Run) → Separated n b (s ++ r ∷ t) → r.low ≤ x → member x s ≡ false
none_before b n x [] r t u h = refl
none_before b n x (c ∷ s) r t u h =
    rw (inside-gt x c (omega (arith, low-ge (c.high + 2) n s r t u.3))) (none_before (c.high + 2) n x s r t u.3 h)

module _ (b n x : ℕ) (s : List Run) (r : Run) (t : List Run) (u : Separated n b (s ++ r ∷ t)) where
  pub cut_up : r.high < x → member x (s ++ r ∷ t) ≡ member x t
  cut_up h = let v = at_cut b n s r t u in
      member-append x s (r ∷ t) ∙ rw (none_before b n x s r t u (omega arith), inside-gt x r h)

  pub cut_down : x < r.low → member x (s ++ r ∷ t) ≡ member x s
  cut_down h = let v = at_cut b n s r t u in
      member-append x s (r ∷ t) ∙ rw (inside-lt x r h, below (r.high + 2) n x t v.3 (omega arith)) (or-false (member x s))

  pub cut-hit : r.low ≤ x → x ≤ r.high → member x (s ++ r ∷ t) ≡ true
  cut-hit h k = member-append x s (r ∷ t) ∙ rw (inside-in x r h k) (or-true (member x s))

pub runs-add : (ws : List ℕ) (i j k : ℕ) → runs_in_words ws i (j + k) ≡ runs_in_words ws i j ++ runs_in_words ws (i + j) k
runs-add ws i zero k = let e : zero + k ≡ k = omega arith in let d : i + zero ≡ i = omega arith in rw (e, d)
runs-add ws i (suc j) k =
    let e : suc j + k ≡ suc (j + k) = omega arith in
    let d : i + suc j ≡ i + 1 + j = omega arith in
    rw (e, d) (ap {B = List Run} (λ t. run_at ws i ∷ t) (runs-add ws (i + 1) j k))

-- the runs lo..hi, cut at mid
pub runs-cut : (ws : List ℕ) (lo mid hi : ℕ) → lo ≤ mid → mid < hi
    → runs_in_words ws lo (hi - lo) ≡ runs_in_words ws lo (mid - lo) ++ run_at ws mid ∷ runs_in_words ws (mid + 1) (hi - (mid + 1))
runs-cut ws lo mid hi h k =
    let e : hi - lo ≡ (mid - lo) + (hi - mid) = omega arith in
    let d : lo + (mid - lo) ≡ mid = omega arith in
    rw e (runs-add ws lo (mid - lo) (hi - mid) ∙ rw d (rw (runs-next ws mid hi k)))

-- the first of the runs in words, and those after them
pub take_runs : (ws : List ℕ) (i k n : ℕ) → k ≤ n → take k (runs_in_words ws i n) ≡ runs_in_words ws i k
take_runs ws i zero n h = refl
take_runs ws i (suc k) zero h = absurd (omega arith)
take_runs ws i (suc k) (suc n) h = ap {B = List Run} (λ t. run_at ws i ∷ t) (take_runs ws (i + 1) k n (omega arith))

pub drop-runs : (ws : List ℕ) (i k n : ℕ) → k ≤ n → drop k (runs_in_words ws i n) ≡ runs_in_words ws (i + k) (n - k)
drop-runs ws i zero n h = let e : i + zero ≡ i = omega arith in let d : n - zero ≡ n = omega arith in rw (e, d) refl
drop-runs ws i (suc k) zero h = absurd (omega arith)
drop-runs ws i (suc k) (suc n) h =
    let e : i + 1 + k ≡ i + suc k = omega arith in
    let d : n - k ≡ suc n - suc k = omega arith in
    drop-runs ws (i + 1) k n (omega arith) ∙ ap₂ (λ (j m : ℕ). runs_in_words ws j m) e d

-- runs in words, cut at two places
pub runs-cut-twice : (ws : List ℕ) (i j k n : ℕ) → j ≤ k → k ≤ n
    → runs_in_words ws i n ≡ runs_in_words ws i j ++ (runs_in_words ws (i + j) (k - j) ++ runs_in_words ws (i + k) (n - k))
runs-cut-twice ws i j k n h l =
    let e : n ≡ j + (n - j) = omega arith in
    let d : n - j ≡ (k - j) + (n - k) = omega arith in
    let p : i + j + (k - j) ≡ i + k = omega arith in
    ap (λ (m : ℕ). runs_in_words ws i m) e
    ∙ runs-add ws i j (n - j)
    ∙ ap (λ (t : List Run). runs_in_words ws i j ++ t)
    (ap (λ (m : ℕ). runs_in_words ws (i + j) m) d
    ∙ runs-add ws (i + j) (k - j) (n - k)
    ∙ ap (λ (m : ℕ). runs_in_words ws (i + j) (k - j) ++ runs_in_words ws m (n - k)) p)
