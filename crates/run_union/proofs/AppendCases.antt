-- Cases of `place` and `append`: a run put behind the last one, or joined to it.
use Rattle.model.proofs.Prelude.{ℕ, ◌≤◌, ◌<◌, ◌+◌, ◌-◌, ◌*◌, suc, zero, max, ◌≡◌, ◌∙◌, ap, sym, List, [], ◌∷◌, ◌++◌, append_assoc, length, get_or}
use Rattle.model.proofs.Prelude.{length-append, set, take_all, take_at, not-suc-le-zero, arith}
use lib.Seq.{set-get_or}
use Rattle.model.specs.Runs.{Run, run}
use Rattle.run_lists.specs.RunLists.{add_run, run_at, runs_in_words}
use Rattle.run_lists.specs.Answers.{Room, Adds}
use Rattle.run_lists.proofs.RunWordLaws.{length_runs, runs-snoc}
use Rattle.run_union.proofs.AddRunLaws.{joined-one, joined-two, add_run-snoc}
use Rattle.run_union.proofs.RunWriteLaws.{write_runs-snoc, write_runs-self}
use Rattle.run_union.proofs.Adding.{answer-fits, answer-full}
use Rattle.std.specs.Prelude.{Option, Some, None}

-- ---- place

length-snoc : (s : List Run) (r : Run) → length (s ++ r ∷ []) ≡ length s + 1
length-snoc s r = length-append s (r ∷ [])

module _ (ws : List ℕ) (start n cap low high : ℕ) (room : Room ws start n cap) where
  pub place-room : n < cap → Adds ws (set (set ws (2 * (start + n)) low) (2 * (start + n) + 1) high) start cap (runs_in_words ws start n ++ run low high ∷ []) (Some (n + 1))
  place-room h =
      let s : List Run = runs_in_words ws start n in
      let l : length (s ++ run low high ∷ []) ≡ n + 1 = length-snoc s (run low high) ∙ ap (λ k. k + 1) (length_runs ws start n) in
      record {
        answers = sym (answer-fits cap (s ++ run low high ∷ []) (n + 1) l (omega arith));
        writes =
            rw (take_all cap (s ++ run low high ∷ []) (omega arith), write_runs-snoc ws start (start + n) s (run low high) (rw (length_runs ws start n)), write_runs-self ws start n);
      }

  pub place-full : cap ≤ n → Adds ws ws start cap (runs_in_words ws start n ++ run low high ∷ []) None
  place-full h =
      let s : List Run = runs_in_words ws start n in
      let l : length (s ++ run low high ∷ []) ≡ n + 1 = length-snoc s (run low high) ∙ ap (λ k. k + 1) (length_runs ws start n) in
      let e : length s ≡ cap = length_runs ws start n ∙ omega (arith, room.fits) in
      record {
        answers = sym (answer-full cap (s ++ run low high ∷ []) (omega arith));
        writes = rw (take_at s (run low high ∷ []) cap e, write_runs-self ws start n);
      }

-- ---- append

runs_last : (ws : List ℕ) (i n : ℕ) → 0 < n → runs_in_words ws i n ≡ runs_in_words ws i (n - 1) ++ run_at ws (i + (n - 1)) ∷ []
runs_last ws i zero h = absurd (not-suc-le-zero h)
runs_last ws i (suc k) h = let e : suc k - 1 ≡ k = omega arith in rw e (runs-snoc ws i k)

add_run-none : (ws : List ℕ) (start n : ℕ) (r : Run) → n ≡ 0 → add_run (runs_in_words ws start n) r ≡ runs_in_words ws start n ++ r ∷ []
add_run-none ws start n r e = rw e

module _ (ws : List ℕ) (start n : ℕ) (r : Run) (pos : 0 < n) where
  -- the index of the last run's high word
  last-at : 2 * (start + n) - 1 ≡ 2 * (start + (n - 1)) + 1
  last-at = omega arith

  add_run-apart : get_or ws (2 * (start + n) - 1) 0 < r.low - 1 → add_run (runs_in_words ws start n) r ≡ runs_in_words ws start n ++ r ∷ []
  add_run-apart h =
      let h' : get_or ws (2 * (start + (n - 1)) + 1) 0 < r.low - 1 = rw last-at at h in
      rw (runs_last ws start n pos, add_run-snoc (runs_in_words ws start (n - 1)) (run_at ws (start + (n - 1))) r, joined-two (run_at ws (start + (n - 1))) r (omega arith))
      (sym (append_assoc (runs_in_words ws start (n - 1)) (run_at ws (start + (n - 1)) ∷ []) (r ∷ [])))

  join_adds : (cap : ℕ) → Room ws start n cap → r.low - 1 ≤ get_or ws (2 * (start + n) - 1) 0
      → Adds ws (set ws (2 * (start + n) - 1) (max (get_or ws (2 * (start + n) - 1) 0) r.high)) start cap (add_run (runs_in_words ws start n) r) (Some n)
  join_adds cap room h =
      let h' : r.low - 1 ≤ get_or ws (2 * (start + (n - 1)) + 1) 0 = rw last-at at h in
      let all = take_all cap (s ++ j ∷ []) (omega (arith, l, room.fits)) in
      let last = write_runs-snoc ws start (start + (n - 1)) s j (rw (length_runs ws start (n - 1))) in
      rw (last-at, runs_last ws start n pos, add_run-snoc s c r, joined-one c r (omega arith))
      (record {
        answers = sym (answer-fits cap (s ++ j ∷ []) n l room.fits);
        writes = rw (all, last, write_runs-self ws start (n - 1), set-get_or ws (2 * (start + (n - 1))) 0);
      })
    where
      s : List Run
      s = runs_in_words ws start (n - 1)

      c : Run
      c = run_at ws (start + (n - 1))

      j : Run
      j = run c.low (max c.high r.high)

      l : length (s ++ j ∷ []) ≡ n
      l = length-snoc s j ∙ omega (arith, length_runs ws start (n - 1))

module _ (ws : List ℕ) (start n cap low high : ℕ) where
  pub append_first : (ws' : List ℕ) (q : Option ℕ) → n ≡ 0 → Adds ws ws' start cap (runs_in_words ws start n ++ run low high ∷ []) q
      → Adds ws ws' start cap (add_run (runs_in_words ws start n) (run low high)) q
  append_first ws' q z d = rw (add_run-none ws start n (run low high) z) d

  module _ (some : n ≡ 0 → ⊥) where
    pub append_apart : (ws' : List ℕ) (q : Option ℕ) → get_or ws (2 * (start + n) - 1) 0 < low - 1 → Adds ws ws' start cap (runs_in_words ws start n ++ run low high ∷ []) q
        → Adds ws ws' start cap (add_run (runs_in_words ws start n) (run low high)) q
    append_apart ws' q h d = rw (add_run-apart ws start n (run low high) (omega arith) h) d

    pub append_joined : (m : ℕ) → m ≡ max (get_or ws (2 * (start + n) - 1) 0) high → Room ws start n cap → low - 1 ≤ get_or ws (2 * (start + n) - 1) 0
        → Adds ws (set ws (2 * (start + n) - 1) m) start cap (add_run (runs_in_words ws start n) (run low high)) (Some n)
    append_joined m e room h = rw e (join_adds ws start n (run low high) (omega arith) cap room h)
