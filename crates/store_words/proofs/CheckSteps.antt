-- Steps of the checks: a rule's test at both edges from the two tests that the code makes, and the answer from the five rules.
use Rattle.model.proofs.Prelude.{ℕ, ◌≤◌, ◌<◌, ◌+◌, ◌-◌, ◌*◌, ◌≡◌, ◌∙◌, ap, refl, sym, true, Bool, false, ◌&&◌, not, List, [], ◌∷◌, length, leb, T}
use Rattle.model.proofs.Prelude.{eqb, leb→le, arith, le-leb, lt-leb, ne_eqb, eq-eqb, not-true, not-false}
use Rattle.model.specs.Base.{Answer, refused, value, all_of, checks}
use Rattle.model.specs.Path.{Edge, rising, falling}
use Rattle.model.specs.Runs.{separated_runs_of}
use Rattle.model.specs.Store.{place_words, head_words, max_runs, max_tests, tests_taken_of, runs_of_tests_of, store_words_count, both_edges, run_count, store_runs, words_after, store_rules}
use Rattle.model.proofs.BoolLaws.{and_left, and_right, true→T}
use Rattle.run_lists.specs.RunLists.{runs_in_words}
use Rattle.store_words.specs.Sound.{FewRuns}
use Rattle.store_words.proofs.RunPlaceLaws.{places_of, places-rising, places-falling}
use Rattle.store_words.specs.WordAnswers.{zero_words_of}

module _ (f : Edge → Bool) (a : Bool) (first : a ≡ f rising) where
  fails-first : a ≡ false → a ≡ both_edges f
  fails-first e = let z : f rising ≡ false = sym first ∙ e in e ∙ sym (ap (λ (t : Bool). t && f falling) z)

  second-decides : a ≡ true → (b : Bool) → b ≡ f falling → b ≡ both_edges f
  second-decides e b d = let z : f rising ≡ true = sym first ∙ e in d ∙ sym (ap (λ (t : Bool). t && f falling) z)

module _ (ws : List ℕ) where
  few : Edge → Bool
  few e = leb (run_count ws e) max_runs

  pub few-first : max_runs < run_count ws rising → leb (run_count ws rising) max_runs ≡ both_edges (λ e. leb (run_count ws e) max_runs)
  unfolding few
  few-first h = fails-first few (few rising) refl (lt-leb (run_count ws rising) max_runs h)

  pub few-both : run_count ws rising ≤ max_runs → leb (run_count ws falling) max_runs ≡ both_edges (λ e. leb (run_count ws e) max_runs)
  unfolding few
  few-both h = second-decides few (few rising) refl (le-leb (run_count ws rising) max_runs h) (few falling) refl

module _ (ws : List ℕ) (paths : ℕ) (a : Bool) (first : a ≡ separated_runs_of paths 1 (runs_in_words (places_of ws) 0 (run_count ws rising - 0))) where
  apart : Edge → Bool
  apart e = separated_runs_of paths 1 (store_runs ws e)

  pub separated_first : a ≡ false → a ≡ both_edges (λ e. separated_runs_of paths 1 (store_runs ws e))
  unfolding apart
  separated_first = fails-first apart a (first ∙ ap (separated_runs_of paths 1) (places-rising ws))

  pub separated_both : a ≡ true → (b : Bool) → b ≡ separated_runs_of paths 1 (runs_in_words (places_of ws) max_runs (max_runs + run_count ws falling - max_runs))
      → b ≡ both_edges (λ e. separated_runs_of paths 1 (store_runs ws e))
  unfolding apart
  separated_both e b second =
      second-decides apart a (first ∙ ap (separated_runs_of paths 1) (places-rising ws)) e b (second ∙ ap (separated_runs_of paths 1) (places-falling ws))

module _ (ws : List ℕ) (a : Bool) (first : a ≡ zero_words_of ws (head_words + 2 * run_count ws rising) (place_words - 2 * run_count ws rising)) where
  clean : Edge → Bool
  clean e = all_of (λ w. eqb w 0) (words_after ws e)

  pub zeros-first : a ≡ false → a ≡ both_edges (λ e. all_of (λ w. eqb w 0) (words_after ws e))
  unfolding clean
  zeros-first = fails-first clean a first

  pub zeros-both : a ≡ true → (b : Bool) → b ≡ zero_words_of ws (head_words + place_words + 2 * run_count ws falling) (place_words - 2 * run_count ws falling)
      → b ≡ both_edges (λ e. all_of (λ w. eqb w 0) (words_after ws e))
  unfolding clean
  zeros-both e b second = second-decides clean a first e b second

-- ---- the rules in their order

module _ (x t y u z : Bool) where
  abbrev five : Answer (Unit {0})
  five = checks ((40, x) ∷ (40, t) ∷ (41, y) ∷ (41, u) ∷ (42, z) ∷ [])

  fails_runs : x ≡ false → refused 40 ≡ five
  fails_runs p = rw p refl

  fails-tests : x ≡ true → t ≡ false → refused 40 ≡ five
  fails-tests p q = rw (p, q) refl

  fails-range : x ≡ true → t ≡ true → y ≡ false → refused 41 ≡ five
  fails-range p q r = rw (p, q, r) refl

  fails-none : x ≡ true → t ≡ true → y ≡ true → u ≡ false → refused 41 ≡ five
  fails-none p q r s = rw (p, q, r, s) refl

  fails-zeros : x ≡ true → t ≡ true → y ≡ true → u ≡ true → z ≡ false → refused 42 ≡ five
  fails-zeros p q r s v = rw (p, q, r, s, v) refl

  passes-all : x ≡ true → t ≡ true → y ≡ true → u ≡ true → z ≡ true → value tt ≡ five
  passes-all p q r s v = rw (p, q, r, s, v) refl

module _ (ws : List ℕ) (paths : ℕ) where
  x : Bool
  x = both_edges (λ e. leb (run_count ws e) max_runs)

  counted : Bool
  counted = leb (tests_taken_of ws) max_tests

  y : Bool
  y = both_edges (λ e. separated_runs_of paths 1 (store_runs ws e))

  some : Bool
  some = runs_of_tests_of ws

  z : Bool
  z = both_edges (λ e. all_of (λ w. eqb w 0) (words_after ws e))

  module _ {a : Bool} (ax : a ≡ both_edges (λ e. leb (run_count ws e) max_runs)) where
    pub many-runs : not a ≡ true → refused 40 ≡ checks (store_rules paths ws)
    unfolding x counted y some z
    many-runs n = fails_runs x counted y some z (sym ax ∙ not-true a n)

    pub few-known : length ws ≡ store_words_count → not a ≡ false → FewRuns ws
    few-known l n =
        let t : T (both_edges (λ e. leb (run_count ws e) max_runs)) = true→T (both_edges (λ e. leb (run_count ws e) max_runs)) (sym ax ∙ not-false a n) in
        record {
          long = l;
          few_rising = leb→le (run_count ws rising) max_runs (and_left (leb (run_count ws rising) max_runs) (leb (run_count ws falling) max_runs) t);
          few_falling = leb→le (run_count ws falling) max_runs (and_right (leb (run_count ws rising) max_runs) (leb (run_count ws falling) max_runs) t);
        }

    module _ (fa : not a ≡ false) {g : Bool} (gt : g ≡ leb (tests_taken_of ws) max_tests) where
      pub many-tests : not g ≡ true → refused 40 ≡ checks (store_rules paths ws)
      unfolding x counted y some z
      many-tests n = fails-tests x counted y some z (sym ax ∙ not-false a fa) (sym gt ∙ not-true g n)

      module _ (fg : not g ≡ false) {b : Bool} (by : b ≡ both_edges (λ e. separated_runs_of paths 1 (store_runs ws e))) where
        pub bad-run : not b ≡ true → refused 41 ≡ checks (store_rules paths ws)
        unfolding x counted y some z
        bad-run n = fails-range x counted y some z (sym ax ∙ not-false a fa) (sym gt ∙ not-false g fg) (sym by ∙ not-true b n)

        module _ (fb : not b ≡ false) {h : Bool} (hu : h ≡ runs_of_tests_of ws) where
          pub runs-of_none : not h ≡ true → refused 41 ≡ checks (store_rules paths ws)
          unfolding x counted y some z
          runs-of_none n = fails-none x counted y some z (sym ax ∙ not-false a fa) (sym gt ∙ not-false g fg) (sym by ∙ not-false b fb) (sym hu ∙ not-true h n)

          module _ (fh : not h ≡ false) {d : Bool} (dz : d ≡ both_edges (λ e. all_of (λ w. eqb w 0) (words_after ws e))) where
            pub word-left : not d ≡ true → refused 42 ≡ checks (store_rules paths ws)
            unfolding x counted y some z
            word-left n =
                fails-zeros x counted y some z (sym ax ∙ not-false a fa) (sym gt ∙ not-false g fg) (sym by ∙ not-false b fb) (sym hu ∙ not-false h fh)
                (sym dz ∙ not-true d n)

            pub all_sound : not d ≡ false → value tt ≡ checks (store_rules paths ws)
            unfolding x counted y some z
            all_sound n =
                passes-all x counted y some z (sym ax ∙ not-false a fa) (sym gt ∙ not-false g fg) (sym by ∙ not-false b fb) (sym hu ∙ not-false h fh)
                (sym dz ∙ not-false d n)

-- ---- tests taken

module _ (ws : List ℕ) where
  pub some_tests : 0 < tests_taken_of ws → true ≡ runs_of_tests_of ws
  some_tests h = sym (rw (le-leb 1 (tests_taken_of ws) h) refl)

  none_yet : tests_taken_of ws ≤ 0 → both_edges (λ e. eqb (run_count ws e) 0) ≡ runs_of_tests_of ws
  none_yet h = sym (rw (lt-leb 1 (tests_taken_of ws) (omega arith)) refl)

  pub none_first : tests_taken_of ws ≤ 0 → (run_count ws rising ≡ 0 → ⊥) → eqb (run_count ws rising) 0 ≡ runs_of_tests_of ws
  none_first h e = fails-first (λ d. eqb (run_count ws d) 0) (eqb (run_count ws rising) 0) refl (ne_eqb (run_count ws rising) 0 e) ∙ none_yet h

  pub none_both : tests_taken_of ws ≤ 0 → run_count ws rising ≡ 0 → eqb (run_count ws falling) 0 ≡ runs_of_tests_of ws
  none_both h e =
      let none : Edge → Bool = λ d. eqb (run_count ws d) 0 in
      second-decides none (none rising) refl (eq-eqb (run_count ws rising) 0 e) (none falling) refl ∙ none_yet h
