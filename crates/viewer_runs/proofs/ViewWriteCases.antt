-- The cases of writing a store anew: words of zeros with a number of tests are a store without runs, into which each edge's runs are written.
use Rattle.model.proofs.Prelude.{ℕ, ◌≤◌, ◌*◌, ◌≡◌, ◌∙◌, ap, refl, sym, subst, List, [], append-nil, length, set, replicate, arith}
use Rattle.model.specs.Path.{Edge, rising, falling}
use Rattle.model.specs.Runs.{Run}
use Rattle.model.specs.Store.{ByEdge, by_edge, of_edge, max_runs, store_words_count, tests_word, tests_taken_of, store_of}
use Rattle.model.proofs.StoreLaws.{empty-store, tests-store}
use Rattle.run_lists.specs.RunLists.{runs_in_words}
use Rattle.run_lists.proofs.RunWordLaws.{length_runs}
use Rattle.store_writing.specs.Writing.{replaced, with_runs, StoreHas, Writable, Rewritten}
use Rattle.store_writing.specs.declared.inner.Change.TheVariants.{Made}
use Rattle.viewer_runs.specs.ViewRuns.{both_runs}

module _ (words : List ℕ) (n : ℕ) (few : n ≤ max_runs) (room : 2 * max_runs ≤ length words) (e : Edge) {ws : List ℕ} (s : ByEdge (List Run))
    (has : StoreHas ws s) (empty : of_edge s e ≡ []) where
  abbrev new : List Run
  new = runs_in_words words 0 n

  all_new : replaced 0 0 new (of_edge s e) ≡ new
  all_new = ap (λ (x : List Run). replaced 0 0 new x) empty ∙ append-nil new

  new-few : length new ≤ max_runs
  new-few = omega (arith, length_runs words 0 n)

  pub put-writable : Writable words 0 (Made 0 0 n) e ws
  put-writable = record {
    runs = s;
    has = has;
    within = (omega arith, omega arith);
    few = subst (λ (x : List Run). length x ≤ max_runs) (sym all_new) new-few;
    room = omega arith;
  }

  module _ {ws' : List ℕ} (r : Rewritten words 0 (Made 0 0 n) e ws ws') where
    pub put_is : ws' ≡ store_of (tests_taken_of ws) (with_runs e new s)
    put_is = r s has ∙ ap (λ (x : List Run). store_of (tests_taken_of ws) (with_runs e x s)) all_new

    pub put-tests : tests_taken_of ws' ≡ tests_taken_of ws
    put-tests = ap tests_taken_of put_is ∙ tests-store (tests_taken_of ws) (with_runs e new s)

    pub put_has : StoreHas ws' (with_runs e new s)
    put_has = record {
      is = put_is ∙ ap (λ (x : ℕ). store_of x (with_runs e new s)) (sym put-tests);
      few = fewer e;
    }
      where
        fewer : (e d : Edge) → length (of_edge (with_runs e new s) d) ≤ max_runs
        fewer rising rising = new-few
        fewer rising falling = has.few falling
        fewer falling rising = has.few rising
        fewer falling falling = new-few

abbrev no_runs : ByEdge (List Run)
no_runs = by_edge (λ e. [])

module _ (ws : List ℕ) (long : length ws ≡ store_words_count) {zeros : List ℕ} (cleared : zeros ≡ replicate (length ws) 0) (tests : ℕ) where
  abbrev blank : List ℕ
  blank = set zeros tests_word tests

  blank-is : blank ≡ store_of tests no_runs
  unfolding store_of
  blank-is = ap (λ (x : List ℕ). set x tests_word tests) cleared ∙ ap (λ (n : ℕ). set (replicate n 0) tests_word tests) long ∙ ap (λ (x : List ℕ). set x tests_word tests) empty-store

  blank-tests : tests_taken_of blank ≡ tests
  blank-tests = ap tests_taken_of blank-is ∙ tests-store tests no_runs

  blank-has : StoreHas blank no_runs
  blank-has = record { is = blank-is ∙ ap (λ (n : ℕ). store_of n no_runs) (sym blank-tests); few = λ e. none e }
    where
      none : (e : Edge) → length (of_edge no_runs e) ≤ max_runs
      none rising = omega arith
      none falling = omega arith

  module _ (up : List ℕ) (r : ℕ) (few-up : r ≤ max_runs) (room-up : 2 * max_runs ≤ length up) where
    pub first-writable : Writable up 0 (Made 0 0 r) rising blank
    first-writable = put-writable up r few-up room-up rising no_runs blank-has refl

    module _ {ws₁ : List ℕ} (first : Rewritten up 0 (Made 0 0 r) rising blank ws₁) (down : List ℕ) (f : ℕ) (few-down : f ≤ max_runs)
        (room-down : 2 * max_runs ≤ length down) where
      once : StoreHas ws₁ (with_runs rising (runs_in_words up 0 r) no_runs)
      once = put_has up r few-up room-up rising no_runs blank-has refl first

      pub second-writable : Writable down 0 (Made 0 0 f) falling ws₁
      second-writable = put-writable down f few-down room-down falling (with_runs rising (runs_in_words up 0 r) no_runs) once refl

      pub both-written : {ws₂ : List ℕ} → Rewritten down 0 (Made 0 0 f) falling ws₁ ws₂
          → ws₂ ≡ store_of tests (both_runs (runs_in_words up 0 r) (runs_in_words down 0 f))
      both-written second =
          put_is down f few-down room-down falling (with_runs rising (runs_in_words up 0 r) no_runs) once refl second
          ∙ ap (λ (n : ℕ). store_of n (both_runs (runs_in_words up 0 r) (runs_in_words down 0 f)))
          (put-tests up r few-up room-up rising no_runs blank-has refl first ∙ blank-tests)
