-- Runs and zeros written over an edge's places make the model's places.
use Rattle.model.proofs.Prelude.{ℕ, ◌≤◌, ◌<◌, ◌+◌, ◌-◌, ◌*◌, suc, zero, ◌≡◌, ◌∙◌, ap, refl, sym, ap₂, List, [], ◌∷◌, ◌++◌, append_assoc, length, get_or}
use Rattle.model.proofs.Prelude.{drop, take, length-append, set, replicate, length-drop, length-replicate, length-take-le, set_at, arith}
use Rattle.model.specs.Runs.{Run, run}
use Rattle.model.specs.Store.{max_runs, lows_highs, places}
use Rattle.run_lists.specs.RunLists.{run_at, runs_in_words, write_runs_of}
use Rattle.run_lists.proofs.MemberLaws.{run-path}
use Rattle.run_lists.proofs.RunCutLaws.{take_runs, drop-runs}
use Rattle.run_lists.proofs.RunWordLaws.{length_runs}
use Rattle.run_union.proofs.RunWriteLaws.{write_runs-self, get_d_after, write_append, write_swap}
use Rattle.store_writing.specs.Writing.{zeroed, ZeroWords, zero_runs, padded_runs, replaced}

-- ---- words made zero

pub zeroed-next : (ws : List ℕ) (i to : ℕ) → i < to → zeroed ws i (to - i) ≡ zeroed (set ws i 0) (i + 1) (to - (i + 1))
zeroed-next ws i to h = let e : to - i ≡ suc (to - (i + 1)) = omega arith in ap (λ (k : ℕ). zeroed ws i k) e

pub zeroed-end : (ws : List ℕ) (i to : ℕ) → to ≤ i → zeroed ws i (to - i) ≡ ws
zeroed-end ws i to h = let e : to - i ≡ 0 = omega arith in ap (λ (k : ℕ). zeroed ws i k) e

zeros-then : (done rest : List ℕ) (i : ℕ) → length done ≡ i → zeroed (done ++ rest) i (length rest) ≡ done ++ replicate (length rest) 0
zeros-then done [] i e = refl
zeros-then done (x ∷ rest) i e =
    ap (λ (ws : List ℕ). zeroed ws (i + 1) (length rest)) (set_at done x rest 0 i e ∙ sym (append_assoc done (0 ∷ []) rest))
    ∙ zeros-then (done ++ (0 ∷ [])) rest (i + 1) (length-append done (0 ∷ []) ∙ omega arith)
    ∙ append_assoc done (0 ∷ []) (replicate (length rest) 0)

pub zeroed-all : (ws ws' : List ℕ) → ws' ≡ zeroed ws 0 (length ws - 0) → ws' ≡ replicate (length ws) 0
zeroed-all ws ws' e = let d : length ws - 0 ≡ length ws = omega arith in e ∙ ap (λ (k : ℕ). zeroed ws 0 k) d ∙ zeros-then [] ws 0 refl

-- two words for each run
zeroed-runs : (k i j : ℕ) (ws : List ℕ) → j ≡ 2 * i → zeroed ws j (2 * k) ≡ write_runs_of ws i (zero_runs k)
unfolding zero_runs
zeroed-runs zero i j ws e = refl
zeroed-runs (suc k) i j ws e =
    let d : 2 * suc k ≡ suc (suc (2 * k)) = omega arith in
    ap (λ (n : ℕ). zeroed ws j n) d ∙ zeroed-runs k (i + 1) (j + 1 + 1) (set (set ws j 0) (j + 1) 0) (omega arith)
    ∙ ap (λ (n : ℕ). write_runs_of (set (set ws n 0) (n + 1) 0) (i + 1) (replicate k (run 0 0))) e

-- ---- runs of zeros

length-zero : (k : ℕ) → length (zero_runs k) ≡ k
unfolding zero_runs
length-zero k = length-replicate {A = Run} k (run 0 0)

zero_words : (k : ℕ) → lows_highs (zero_runs k) ≡ replicate (2 * k) 0
unfolding zero_runs
zero_words zero = refl
zero_words (suc k) = let e : 2 * suc k ≡ suc (suc (2 * k)) = omega arith in rw e (ap (λ (x : List ℕ). 0 ∷ 0 ∷ x) (zero_words k))

zero-add : (k n : ℕ) → zero_runs k ++ zero_runs n ≡ zero_runs (k + n)
unfolding zero_runs
zero-add zero n = let e : zero + n ≡ n = omega arith in rw e refl
zero-add (suc k) n = let e : suc k + n ≡ suc (k + n) = omega arith in rw e (ap (λ (x : List Run). run 0 0 ∷ x) (zero-add k n))

zero_runs_lem : (ws : List ℕ) (k i : ℕ) → ZeroWords ws (2 * i) (2 * (i + k)) → runs_in_words ws i k ≡ zero_runs k
unfolding zero_runs
zero_runs_lem ws zero i h = refl
zero_runs_lem ws (suc k) i h =
    λ t. run-path {r = run_at ws i} {s = run 0 0} (h (2 * i) (omega arith) (omega arith)) (h (2 * i + 1) (omega arith) (omega arith)) t
    ∷ zero_runs_lem ws k (i + 1) (λ j a b. h j (omega arith) (omega arith)) t

-- ---- an edge's places

lows-append : (s t : List Run) → lows_highs (s ++ t) ≡ lows_highs s ++ lows_highs t
lows-append [] t = refl
lows-append (r ∷ s) t = ap (λ (x : List ℕ). r.low ∷ r.high ∷ x) (lows-append s t)

pub padded-places : (rs : List Run) → length rs ≤ max_runs → lows_highs (padded_runs rs) ≡ places rs
padded-places rs h =
    let e : 2 * (max_runs - length rs) ≡ 2 * max_runs - 2 * length rs = omega arith in
    lows-append rs (zero_runs (max_runs - length rs))
    ∙ ap (λ (x : List ℕ). lows_highs rs ++ x) (zero_words (max_runs - length rs) ∙ ap (λ (k : ℕ). replicate k 0) e)

pub length-padded : (rs : List Run) → length rs ≤ max_runs → length (padded_runs rs) ≡ max_runs
length-padded rs h = length-append rs (zero_runs (max_runs - length rs)) ∙ omega (arith, length-zero (max_runs - length rs))

-- runs written over as many, between words that stay
pub write_block : (s : List Run) (i : ℕ) (pre mid post : List ℕ) → length pre ≡ 2 * i → length mid ≡ 2 * length s
    → write_runs_of (pre ++ (mid ++ post)) i s ≡ pre ++ (lows_highs s ++ post)
write_block [] i pre [] post e l = refl
write_block [] i pre (a ∷ mid) post e l = absurd (omega arith)
write_block (r ∷ s) i pre [] post e l = absurd (omega arith)
write_block (r ∷ s) i pre (a ∷ []) post e l = absurd (omega arith)
write_block (r ∷ s) i pre (a ∷ b ∷ mid) post e l =
    let p₁ : List ℕ = pre ++ r.low ∷ [] in
    let p₂ : List ℕ = p₁ ++ r.high ∷ [] in
    let l₁ : length p₁ ≡ 2 * i + 1 = length-append pre (r.low ∷ []) ∙ omega arith in
    let l₂ : length p₂ ≡ 2 * (i + 1) = length-append p₁ (r.high ∷ []) ∙ omega arith in
    let one : set (pre ++ a ∷ (b ∷ (mid ++ post))) (2 * i) r.low ≡ p₁ ++ b ∷ (mid ++ post) =
    set_at pre a (b ∷ (mid ++ post)) r.low (2 * i) e ∙ sym (append_assoc pre (r.low ∷ []) (b ∷ (mid ++ post))) in
    let two : set (p₁ ++ b ∷ (mid ++ post)) (2 * i + 1) r.high ≡ p₂ ++ (mid ++ post) =
    set_at p₁ b (mid ++ post) r.high (2 * i + 1) l₁ ∙ sym (append_assoc p₁ (r.high ∷ []) (mid ++ post)) in
    ap (λ (x : List ℕ). write_runs_of (set x (2 * i + 1) r.high) (i + 1) s) one
    ∙ ap (λ (x : List ℕ). write_runs_of x (i + 1) s) two
    ∙ write_block s (i + 1) p₂ mid post l₂ (omega arith)
    ∙ append_assoc p₁ (r.high ∷ []) (lows_highs s ++ post)
    ∙ append_assoc pre (r.low ∷ []) (r.high ∷ (lows_highs s ++ post))

-- An edge's runs written over those that are held, with zeros after them where there were more: the words after those are zero already
module _ (ws : List ℕ) (first held : ℕ) (z : ZeroWords ws (2 * (first + held)) (2 * (first + max_runs))) (rs : List Run) where
  padded-so_far : (k n : ℕ) → length rs + k + n ≡ max_runs → held ≤ length rs + k → (ws' : List ℕ) → ws' ≡ write_runs_of ws first (rs ++ zero_runs k)
      → ws' ≡ write_runs_of ws first (padded_runs rs)
  padded-so_far k n e h ws' w =
      let l : length (rs ++ zero_runs k) ≡ length rs + k = length-append rs (zero_runs k) ∙ ap (λ (x : ℕ). length rs + x) (length-zero k) in
      let still : runs_in_words ws' (first + (length rs + k)) n ≡ zero_runs n =
      zero_runs_lem ws' n (first + (length rs + k))
      (λ j a b. ap (λ (x : List ℕ). get_or x j 0) w ∙ get_d_after ws first j (rs ++ zero_runs k) (omega (arith, l, a)) ∙ z j (omega (arith, a)) (omega (arith, b))) in
      sym (write_runs-self ws' (first + (length rs + k)) n)
      ∙ ap (λ (x : List Run). write_runs_of ws' (first + (length rs + k)) x) still
      ∙ ap (λ (x : List ℕ). write_runs_of x (first + (length rs + k)) (zero_runs n)) w
      ∙ write_append ws first (first + (length rs + k)) (rs ++ zero_runs k) (zero_runs n) (omega (arith, l))
      ∙ ap (λ (x : List Run). write_runs_of ws first x)
      (append_assoc rs (zero_runs k) (zero_runs n) ∙ ap (λ (x : List Run). rs ++ x) (zero-add k n ∙ ap zero_runs (omega arith)))

pub length-replaced : (from to : ℕ) (new old : List Run) → from ≤ length old → length (replaced from to new old) ≡ from + length new + (length old - to)
length-replaced from to new old h =
    length-append (take from old) (new ++ drop to old)
    ∙ omega (arith, length-take-le from old h, length-append new (drop to old), length-drop to old)

-- The runs from..to of those held replaced: the ones after them moved, then the others copied, then zeros where there were more
module _ (ws words : List ℕ) (made count first held from to : ℕ) (h : from ≤ to) (l : to ≤ held) where
  abbrev new : List Run
  new = runs_in_words words made count

  abbrev tail : List Run
  tail = runs_in_words ws (first + to) (held - to)

  abbrev whole : List Run
  whole = replaced from to new (runs_in_words ws first held)

  replaced-written : {ws₁ ws₂ : List ℕ} → ws₁ ≡ write_runs_of ws (first + (from + count)) tail → ws₂ ≡ write_runs_of ws₁ (first + from) new → ws₂ ≡ write_runs_of ws first whole
  replaced-written e d =
      let c : length new ≡ count = length_runs words made count in
      d ∙ ap (λ (x : List ℕ). write_runs_of x (first + from) new) e
      ∙ write_swap ws (first + from) (first + (from + count)) new tail (omega (arith, c))
      ∙ write_append ws (first + from) (first + (from + count)) new tail (omega (arith, c))
      ∙ ap (λ (x : List ℕ). write_runs_of x (first + from) (new ++ tail)) (sym (write_runs-self ws first from))
      ∙ write_append ws first (first + from) (runs_in_words ws first from) (new ++ tail) (omega (arith, length_runs ws first from))
      ∙ ap (λ (s : List Run). write_runs_of ws first s)
      (sym (ap₂ (λ (x y : List Run). x ++ (new ++ y)) (take_runs ws first from held (omega arith)) (drop-runs ws first to held l)))

  pub places-written : (ws₁ ws₂ ws₃ : List ℕ) → from + count + (held - to) ≤ max_runs → held ≤ max_runs → ZeroWords ws (2 * (first + held)) (2 * (first + max_runs))
      → ws₁ ≡ write_runs_of ws (first + (from + count)) tail → ws₂ ≡ write_runs_of ws₁ (first + from) new
      → ws₃ ≡ zeroed ws₂ (2 * (first + (from + count + (held - to)))) (2 * (first + held) - 2 * (first + (from + count + (held - to))))
      → ws₃ ≡ write_runs_of ws first (padded_runs whole)
  places-written ws₁ ws₂ ws₃ few m z e d c =
      let then : ℕ = from + count + (held - to) in
      let o : length (runs_in_words ws first held) ≡ held = length_runs ws first held in
      let long : length whole ≡ then = length-replaced from to new (runs_in_words ws first held) (omega (arith, o)) ∙ omega (arith, length_runs words made count, o) in
      let zeros : 2 * (first + held) - 2 * (first + then) ≡ 2 * (held - then) = omega arith in
      padded-so_far ws first held z whole (held - then) (max_runs - then - (held - then)) (omega (arith, long)) (omega (arith, long)) ws₃
      (c ∙ ap (λ (n : ℕ). zeroed ws₂ (2 * (first + then)) n) zeros
      ∙ zeroed-runs (held - then) (first + then) (2 * (first + then)) ws₂ refl
      ∙ ap (λ (x : List ℕ). write_runs_of x (first + then) (zero_runs (held - then))) (replaced-written e d)
      ∙ write_append ws first (first + then) whole (zero_runs (held - then)) (omega (arith, long)))
