-- Steps of the questions to a store's words: the checks' answer, and what stands on it.
use Rattle.model.proofs.Prelude.{ℕ, ◌≤◌, ◌<◌, ◌*◌, ◌≡◌, ◌∙◌, ap, refl, sym, ap₂, Bool, and-false, List, [], ◌∷◌, leb, le-leb, lt-leb}
use Rattle.model.specs.Base.{refused, value, checks, Answer, ◌then◌}
use Rattle.model.specs.Path.{Edge, edge_of_fault, path_of_fault}
use Rattle.model.specs.Runs.{in_runs}
use Rattle.model.specs.Read.{within}
use Rattle.model.specs.Store.{store_runs, store_rules}
use Rattle.model.specs.Refusals.{refusal_number_of}
use Rattle.model.specs.declared.Refusal.{Refusal}
use Rattle.model.proofs.AnswerLaws.{checks-both}
use Rattle.store_words.specs.WordAnswers.{totals_in, totals_both}
use Rattle.store_words.specs.declared.inner.StoreTotals.{StoreTotals}
use Rattle.store.specs.Answers.{totals_on_of, fault_on_of}
use Rattle.std.specs.Prelude.{Result, Ok, Err}
use Rattle.model.specs.Returned.{answer_of}

module _ (paths : ℕ) (ws : List ℕ) (r : Result (Unit {0}) Refusal) (checked : answer_of r ≡ checks (store_rules paths ws)) where
  pub checked_refused : (w : Refusal) → r ≡ Err w → refused (refusal_number_of w) ≡ totals_on_of paths ws
  unfolding totals_on_of
  checked_refused w e = rw (sym checked ∙ ap answer_of e) refl

  pub checked_totals : r ≡ Ok tt → (t : StoreTotals) → totals_in t ≡ totals_both ws → value (totals_in t) ≡ totals_on_of paths ws
  unfolding totals_on_of
  checked_totals e t d = rw (sym checked ∙ ap answer_of e) (ap value d)

  module _ (fault : ℕ) where
    in_range : Bool
    in_range = within 1 (2 * paths) fault

    found : Bool
    found = in_runs (store_runs ws (edge_of_fault fault)) (path_of_fault fault)

    -- the rules of the store's words, then the one of the question
    as_asked : (a : Answer (Unit {0})) → a ≡ checks (store_rules paths ws) → (a then checks ((60, in_range) ∷ []) then value found) ≡ fault_on_of paths ws fault
    unfolding fault_on_of in_range found
    as_asked a e = ap (λ (x : Answer (Unit {0})). x then checks ((60, in_range) ∷ []) then value found) e
        ∙ ap (λ (x : Answer (Unit {0})). x then value found) (sym (checks-both (store_rules paths ws) ((60, in_range) ∷ [])))

    pub fault-refused : (w : Refusal) → r ≡ Err w → refused (refusal_number_of w) ≡ fault_on_of paths ws fault
    fault-refused w e = as_asked (refused (refusal_number_of w)) (sym (ap answer_of e) ∙ checked)

    module _ (e : r ≡ Ok tt) where
      sound-asked : (checks ((60, in_range) ∷ []) then value found) ≡ fault_on_of paths ws fault
      sound-asked = as_asked (value tt) (sym (ap answer_of e) ∙ checked)

      pub fault-low : fault < 1 → refused 60 ≡ fault_on_of paths ws fault
      unfolding in_range
      fault-low h = rw (lt-leb 1 fault h) at sound-asked

      pub fault-high : 2 * paths < fault → refused 60 ≡ fault_on_of paths ws fault
      unfolding in_range
      fault-high h = rw (lt-leb fault (2 * paths) h, and-false (leb 1 fault)) at sound-asked

      module _ (low : 1 ≤ fault) (high : fault ≤ 2 * paths) (d : Edge) (de : d ≡ edge_of_fault fault) (i : ℕ) (ie : i ≡ path_of_fault fault)
          (b : Bool) (be : b ≡ in_runs (store_runs ws d) i) where
        pub fault-found : (v : Bool) → b ≡ v → value v ≡ fault_on_of paths ws fault
        unfolding in_range found
        fault-found v t =
            let f : v ≡ found = sym t ∙ be ∙ ap₂ (λ (x : Edge) (y : ℕ). in_runs (store_runs ws x) y) de ie in
            ap value f ∙ (rw (le-leb 1 fault low, le-leb fault (2 * paths) high) at sound-asked)
