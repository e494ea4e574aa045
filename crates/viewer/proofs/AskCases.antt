-- The cases of a question: the range of the fault, then whether its path is the viewer's, then the search.
use Rattle.model.proofs.Prelude.{ℕ, ◌≤◌, ◌<◌, ◌-◌, ◌*◌, ◌^◌, ◌≡◌, ◌∙◌, ap, refl, sym, subst, ap₂, true, Bool, false, not, and-false, List, leb, arith}
use Rattle.model.proofs.Prelude.{rules, le-leb, lt-leb, not-true, not-false}
use Rattle.model.specs.Base.{refused, value}
use Rattle.model.specs.Path.{Edge, edge_of_fault, path_of_fault}
use Rattle.model.specs.Runs.{Run, in_runs}
use Rattle.model.specs.Store.{store_runs}
use Rattle.run_lists.specs.RunLists.{Sound, runs_in_words}
use Rattle.viewer.specs.ViewAnswers.{asked_on}

module _ (own : ℕ → Bool) (ws : List ℕ) (paths fault : ℕ) where
  pub ask-low : fault < 1 → refused 60 ≡ asked_on own ws paths fault
  unfolding asked_on
  ask-low h = rw (lt-leb 1 fault h) refl

  pub ask-high : 2 * paths < fault → refused 60 ≡ asked_on own ws paths fault
  unfolding asked_on
  ask-high h = rw (lt-leb fault (2 * paths) h, and-false (leb 1 fault)) refl

  module _ (low : 1 ≤ fault) (high : fault ≤ 2 * paths) (i : ℕ) (is : i ≡ path_of_fault fault) where
    foreign : own i ≡ false → refused 90 ≡ asked_on own ws paths fault
    unfolding asked_on
    foreign e = rw (le-leb 1 fault low, le-leb fault (2 * paths) high, sym (ap own is) ∙ e) refl

    found : own i ≡ true → (d : Edge) → d ≡ edge_of_fault fault → (b : Bool) → b ≡ in_runs (store_runs ws d) i → value b ≡ asked_on own ws paths fault
    unfolding asked_on
    found e d de b be =
        rw (le-leb 1 fault low, le-leb fault (2 * paths) high, sym (ap own is) ∙ e)
        (ap value (be ∙ ap₂ (λ (x : Edge) (y : ℕ). in_runs (store_runs ws x) y) de is))

-- The ranges as the search is handed them
module _ (st : List ℕ) (n : ℕ) where
  all : runs_in_words st 0 (n - 0) ≡ runs_in_words st 0 n
  all = let z : n - 0 ≡ n = omega arith in ap (λ (k : ℕ). runs_in_words st 0 k) z

  pub all_sound : Sound (2 ^ 62) (runs_in_words st 0 n) → Sound (2 ^ 62) (runs_in_words st 0 (n - 0))
  all_sound s = subst (Sound (2 ^ 62)) (sym all) s

  module _ (ws : List ℕ) (paths fault : ℕ) (low : 1 ≤ fault) (high : fault ≤ 2 * paths) (i : ℕ) (is : i ≡ path_of_fault fault) (own : Bool)
      (asked : own ≡ in_runs (runs_in_words st 0 (n - 0)) i) where
    own_is : in_runs (runs_in_words st 0 n) i ≡ own
    own_is = ap (λ (rs : List Run). in_runs rs i) (sym all) ∙ sym asked

    pub ask-foreign : not own ≡ true → refused 90 ≡ asked_on (in_runs (runs_in_words st 0 n)) ws paths fault
    ask-foreign e = foreign (in_runs (runs_in_words st 0 n)) ws paths fault low high i is (own_is ∙ not-true own e)

    pub ask-own : not own ≡ false → (d : Edge) → d ≡ edge_of_fault fault → (b : Bool) → b ≡ in_runs (store_runs ws d) i → (v : Bool) → b ≡ v
        → value v ≡ asked_on (in_runs (runs_in_words st 0 n)) ws paths fault
    ask-own e d de b be v bv = ap value (sym bv) ∙ found (in_runs (runs_in_words st 0 n)) ws paths fault low high i is (own_is ∙ not-false own e) d de b be

pub ruleset ask-cases = (ask-low, ask-high, all_sound, ask-foreign, ask-own, rules)
