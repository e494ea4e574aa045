-- The invariant of a loop that adds runs to a list in words, one a turn: what is added so far and what is left make the total.
use Rattle.model.proofs.Prelude.{ℕ, ◌≤◌, ◌<◌, ◌+◌, ◌*◌, ◌≡◌, ◌∙◌, ap, refl, sym, subst, true, Bool, false, cond, List, [], ◌++◌, length, take}
use Rattle.model.proofs.Prelude.{length-take-le, take_all, leb, arith, le-leb, lt-leb, leb-true, leb-false}
use Rattle.model.specs.Runs.{Run}
use Rattle.run_lists.specs.RunLists.{add_runs, run_at, runs_in_words, write_runs_of}
use Rattle.run_lists.specs.Answers.{answer, Adds}
use Rattle.run_lists.proofs.MemberLaws.{run-path}
use Rattle.run_lists.proofs.RunWordLaws.{length_runs}
use Rattle.run_union.proofs.AddRunLaws.{add_runs-append, add_runs-length, add_runs-take}
use Rattle.run_union.proofs.RunWriteLaws.{length-write_runs, write_runs-self, write_runs-write_runs, runs-write, runs-write_before, get_d-write_runs}
use Rattle.std.specs.Prelude.{Option, Some, None}

-- ---- answers

pub answer-fits : (cap : ℕ) (s : List Run) (k : ℕ) → length s ≡ k → k ≤ cap → answer cap s ≡ Some k
answer-fits cap s k e h = rw (e, le-leb k cap h)

pub answer-full : (cap : ℕ) (s : List Run) → cap < length s → answer cap s ≡ None
answer-full cap s h = rw (lt-leb (length s) cap h)

pub answer-count : (cap c : ℕ) (s : List Run) → Some c ≡ answer cap s → (length s ≤ cap) × (c ≡ length s)
answer-count cap c s e = go (leb (length s) cap) refl e
  where
    go : (t : Bool) → leb (length s) cap ≡ t → Some c ≡ cond t (Some (length s)) None → (length s ≤ cap) × (c ≡ length s)
    go true q d = (leb-true (length s) cap q, cc)
    go false q d = let z : ◌≡◌ {A = ℕ} 0 1 = cc in absurd (omega arith)

pub answer-over : (cap : ℕ) (s : List Run) → None ≡ answer cap s → cap < length s
answer-over cap s e = go (leb (length s) cap) refl e
  where
    go : (t : Bool) → leb (length s) cap ≡ t → None ≡ cond t (Some (length s)) None → cap < length s
    go true q d = let z : ◌≡◌ {A = ℕ} 0 1 = cc in absurd (omega arith)
    go false q d = leb-false (length s) cap q

-- ---- the invariant

pub record Adding (ws₀ ws : List ℕ) (start cap n : ℕ) (rest total : List Run) : Type 0 where
  pub fits : n ≤ cap
  pub kept : ws ≡ write_runs_of ws₀ start (runs_in_words ws start n)
  pub left : add_runs (runs_in_words ws start n) rest ≡ total

pub adding-start : (ws : List ℕ) (start cap n : ℕ) (rest : List Run) → n ≤ cap → Adding ws ws start cap n rest (add_runs (runs_in_words ws start n) rest)
adding-start ws start cap n rest h = record { fits = h; kept = sym (write_runs-self ws start n); left = refl }

module _ (ws₀ ws : List ℕ) (start cap n : ℕ) (total : List Run) where
  pub adding-length : (rest : List Run) → Adding ws₀ ws start cap n rest total → length ws ≡ length ws₀
  adding-length rest a = ap length a.kept ∙ length-write_runs ws₀ start (runs_in_words ws start n)

  pub adding-done : Adding ws₀ ws start cap n [] total → Adds ws₀ ws start cap total (Some n)
  adding-done a = rw (← a.left) (record {
    answers = sym (answer-fits cap (runs_in_words ws start n) n (length_runs ws start n) a.fits);
    writes = rw (take_all cap (runs_in_words ws start n) (omega (arith, length_runs ws start n, a.fits))) a.kept;
  })

-- ---- several runs in one turn

module _ (ws₀ ws : List ℕ) (start cap n : ℕ) (total : List Run) (ws' : List ℕ) (part rest : List Run)
    (a : Adding ws₀ ws start cap n (part ++ rest) total) where
  grown : List Run
  grown = add_runs (runs_in_words ws start n) part

  grown-left : add_runs grown rest ≡ total
  unfolding grown
  grown-left = sym (add_runs-append (runs_in_words ws start n) part rest) ∙ a.left

  pub part-full : (q : Option ℕ) → q ≡ None → Adds ws ws' start cap (add_runs (runs_in_words ws start n) part) q → Adds ws₀ ws' start cap total None
  unfolding grown
  part-full q e d =
      let o : cap < length grown = answer-over cap grown (sym e ∙ d.answers) in
      let t : take cap (add_runs grown rest) ≡ take cap grown = add_runs-take cap grown rest o in
      let w : write_runs_of ws start (take cap grown) ≡ write_runs_of ws₀ start (take cap grown) =
      ap (λ (l : List ℕ). write_runs_of l start (take cap grown)) a.kept
      ∙ write_runs-write_runs ws₀ start (runs_in_words ws start n) (take cap grown) (omega (arith, length_runs ws start n, length-take-le cap grown (omega arith), a.fits)) in
      rw (← grown-left) (record {
        answers = sym (answer-full cap (add_runs grown rest) (omega (arith, add_runs-length grown rest)));
        writes = d.writes ∙ w ∙ ap (λ (l : List Run). write_runs_of ws₀ start l) (sym t);
      })

  pub part-more : (q : Option ℕ) (c : ℕ) → q ≡ Some c → 2 * (start + cap) ≤ length ws₀ → Adds ws ws' start cap (add_runs (runs_in_words ws start n) part) q
      → Adding ws₀ ws' start cap c rest total
  unfolding grown
  part-more q c e room d =
      let k : (length grown ≤ cap) × (c ≡ length grown) = answer-count cap c grown (sym e ∙ d.answers) in
      let w : ws' ≡ write_runs_of ws start grown = d.writes ∙ ap (λ (l : List Run). write_runs_of ws start l) (take_all cap grown k.0) in
      let w₀ : write_runs_of ws start grown ≡ write_runs_of ws₀ start grown =
      ap (λ (l : List ℕ). write_runs_of l start grown) a.kept
      ∙ write_runs-write_runs ws₀ start (runs_in_words ws start n) grown (add_runs-length (runs_in_words ws start n) part) in
      let r : runs_in_words ws' start c ≡ grown = rw (w, k.1) (runs-write ws start grown (omega (arith, adding-length ws₀ ws start cap n total (part ++ rest) a))) in
      record { fits = omega arith; kept = rw r (w ∙ w₀); left = rw r grown-left }

-- runs before the list are as they were
pub adding-run : (ws₀ ws : List ℕ) (start cap n : ℕ) (rest total : List Run) (i : ℕ) → Adding ws₀ ws start cap n rest total → i < start → run_at ws i ≡ run_at ws₀ i
adding-run ws₀ ws start cap n rest total i a h =
    ap (λ (l : List ℕ). run_at l i) a.kept
    ∙ run-path {r = run_at (write_runs_of ws₀ start (runs_in_words ws start n)) i} {s = run_at ws₀ i}
    (get_d-write_runs ws₀ start (2 * i) (runs_in_words ws start n) (omega arith)) (get_d-write_runs ws₀ start (2 * i + 1) (runs_in_words ws start n) (omega arith))

pub as_rest : {ws₀ ws : List ℕ} {start cap n : ℕ} {s t total : List Run} → s ≡ t → Adding ws₀ ws start cap n s total → Adding ws₀ ws start cap n t total
as_rest {ws₀} {ws} {start} {cap} {n} {total = total} e a = subst (λ s. Adding ws₀ ws start cap n s total) e a

pub adding-runs : (ws₀ ws : List ℕ) (start cap n : ℕ) (rest total : List Run) (f k : ℕ)
    → Adding ws₀ ws start cap n rest total → f + k ≤ start → runs_in_words ws f k ≡ runs_in_words ws₀ f k
adding-runs ws₀ ws start cap n rest total f k a h = ap (λ (l : List ℕ). runs_in_words l f k) a.kept ∙ runs-write_before ws₀ start f k (runs_in_words ws start n) h

-- what a call that answers a count left
pub adds-count : (ws ws' : List ℕ) (start cap c : ℕ) (s : List Run) (q : Option ℕ) → 2 * (start + cap) ≤ length ws → q ≡ Some c → Adds ws ws' start cap s q
    → (length s ≤ cap) × (c ≡ length s) × (runs_in_words ws' start c ≡ s)
adds-count ws ws' start cap c s q room e d =
    let k : (length s ≤ cap) × (c ≡ length s) = answer-count cap c s (sym e ∙ d.answers) in
    let w : ws' ≡ write_runs_of ws start s = d.writes ∙ ap (λ (l : List Run). write_runs_of ws start l) (take_all cap s k.0) in
    (k.0, k.1, rw (w, k.1) (runs-write ws start s (omega arith)))
