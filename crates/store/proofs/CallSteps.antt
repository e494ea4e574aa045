-- Steps of the public calls: the store's length first, then the netlist, then what stands on its number of paths.
use Rattle.model.proofs.Prelude.{ℕ, ◌≡◌, ◌∙◌, ap, refl, Bool, List, [], ◌∷◌, length, replicate, ne_eqb, eq-eqb}
use Rattle.model.specs.Base.{Answer, refused, ◌into◌, ◌then◌, checks}
use Rattle.model.specs.Netlist.{path_total}
use Rattle.model.specs.Read.{read_netlist}
use Rattle.model.specs.Store.{ByEdge, store_words_count}
use Rattle.model.specs.Calls.{store_rule, empty_call, emptied_store, survey_call, totals_call, fault_call}
use Rattle.model.specs.Refusals.{refusal_number_of}
use Rattle.model.specs.declared.Refusal.{Refusal}
use Rattle.model.specs.declared.Refusal.TheVariants as why
use Rattle.netlist.specs.Answers.{surveyed_of}
use Rattle.netlist.specs.declared.NetlistSurvey.{NetlistSurvey}
use Rattle.netlist.proofs.LoadLaws.{legal-survey, refused-survey}
use Rattle.store.specs.Answers.{EmptyTrue, totals_among, totals_on_of, fault_on_of}
use Rattle.std.specs.Prelude.{Result, Ok, Err}
use Rattle.store_words.specs.declared.inner.StoreTotals.{StoreTotals}
use Rattle.model.specs.Returned.{answer_of}

-- ---- emptying

module _ (ws : List ℕ) where
  pub empty-refused : (length ws ≡ store_words_count → ⊥) → EmptyTrue (Err why.StoreLength) ws ws
  unfolding empty_call emptied_store
  empty-refused d = record { answer = rw (ne_eqb (length ws) store_words_count d) refl; store = rw (ne_eqb (length ws) store_words_count d) refl }

  pub empty-done : (ws' : List ℕ) → length ws ≡ store_words_count → ws' ≡ replicate (length ws) 0 → EmptyTrue (Ok tt) ws ws'
  unfolding empty_call emptied_store
  empty-done ws' l e = record {
    answer = rw (eq-eqb (length ws) store_words_count l) refl;
    store = e ∙ ap (λ (n : ℕ). replicate n 0) l ∙ rw (eq-eqb (length ws) store_words_count l) refl;
  }

-- ---- a call that is handed a netlist and a store

abbrev on_legal : {A : Type 0} → List ℕ → List ℕ → (ℕ → Answer A) → Answer A
on_legal netlist ws f = checks (store_rule ws ∷ []) then read_netlist netlist into λ N. f (path_total N)

module _ {A : Type 0} (netlist ws : List ℕ) (f : ℕ → Answer A) where
  short-store : (length ws ≡ store_words_count → ⊥) → refused 1 ≡ on_legal netlist ws f
  short-store d = rw (ne_eqb (length ws) store_words_count d) refl

  module _ (l : length ws ≡ store_words_count) (r : Result NetlistSurvey Refusal) (t : surveyed_of r ≡ survey_call netlist) where
    not_legal : (w : Refusal) → r ≡ Err w → refused (refusal_number_of w) ≡ on_legal netlist ws f
    not_legal w e = rw (eq-eqb (length ws) store_words_count l, refused-survey netlist r t w e) refl

    legal : (d : NetlistSurvey) → r ≡ Ok d → f d.total ≡ on_legal netlist ws f
    legal d e =
        let s = legal-survey netlist r t d e in
        rw (eq-eqb (length ws) store_words_count l, s.is_read) (ap f s.total_is)

-- ---- totals

module _ (netlist ws : List ℕ) where
  sums : ℕ → Answer (ByEdge ℕ)
  sums n = totals_on_of n ws

  pub totals-short : (length ws ≡ store_words_count → ⊥) → refused 1 ≡ totals_call netlist ws
  unfolding totals_call totals_on_of sums
  totals-short = short-store netlist ws sums

  module _ (l : length ws ≡ store_words_count) (r : Result NetlistSurvey Refusal) (t : surveyed_of r ≡ survey_call netlist) where
    pub totals-not_legal : (w : Refusal) → r ≡ Err w → refused (refusal_number_of w) ≡ totals_call netlist ws
    unfolding totals_call totals_on_of sums
    totals-not_legal = not_legal netlist ws sums l r t

    pub totals-legal : (d : NetlistSurvey) → r ≡ Ok d → (q : Result StoreTotals Refusal) → totals_among q ≡ totals_on_of d.total ws → totals_among q ≡ totals_call netlist ws
    unfolding totals_call totals_on_of sums
    totals-legal d e q a = a ∙ legal netlist ws sums l r t d e

-- ---- a fault

module _ (netlist ws : List ℕ) (fault : ℕ) where
  answer : ℕ → Answer Bool
  answer n = fault_on_of n ws fault

  pub fault-short : (length ws ≡ store_words_count → ⊥) → refused 1 ≡ fault_call netlist ws fault
  unfolding fault_call fault_on_of answer
  fault-short = short-store netlist ws answer

  module _ (l : length ws ≡ store_words_count) (r : Result NetlistSurvey Refusal) (t : surveyed_of r ≡ survey_call netlist) where
    pub fault-not_legal : (w : Refusal) → r ≡ Err w → refused (refusal_number_of w) ≡ fault_call netlist ws fault
    unfolding fault_call fault_on_of answer
    fault-not_legal = not_legal netlist ws answer l r t

    pub fault-legal : (d : NetlistSurvey) → r ≡ Ok d → (q : Result Bool Refusal) → answer_of q ≡ fault_on_of d.total ws fault → answer_of q ≡ fault_call netlist ws fault
    unfolding fault_call fault_on_of answer
    fault-legal d e q a = a ∙ legal netlist ws answer l r t d e
