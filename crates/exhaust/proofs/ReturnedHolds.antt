-- What the value that the call returns shows: its promise, and what is claimed of the definitions.
use Rattle.model.proofs.Prelude.{ℕ, ◌≡◌, ◌∙◌, ap, sym, subst, List}
use Rattle.model.specs.Base.{Answer, refused, value, ◌into◌}
use Rattle.model.specs.Netlist.{Netlist}
use Rattle.model.specs.Read.{read_netlist}
use Rattle.model.specs.Refusals.{refusal_number_of}
use Rattle.model.specs.Store.{ByEdge}
use Rattle.model.specs.declared.Refusal.{Refusal}
use Rattle.model.proofs.AnswerLaws.{not_refused}
use Rattle.model.proofs.RefusalLaws.{refused-inj}
use Rattle.exhaust_pairs.specs.Exhaust.{exhaust_call, exhaust_answer, exhaust_after, exhaust_store, Exhausted}
use Rattle.exhaust_pairs.proofs.OnTheWayLaws.{found-other, emptied-work}
use Rattle.exhaust_pairs.proofs.ExhaustHolds.{exhaustive}
use Rattle.exhaust.specs.Answers.{totals_among, ExhaustTrue}
use Rattle.exhaust.specs.Returned.{ReturnedShows, ExhaustShows}
use Rattle.std.specs.Prelude.{Result, Ok, Err}
use Rattle.store_words.specs.declared.inner.StoreTotals.{StoreTotals}

-- a value at the end refuses nothing
bound_refused : {A B : Type 0} (n : ℕ) (x : Answer A) (f : A → B) → (x into λ a. value (f a)) ≡ refused n → x ≡ refused n
bound_refused n (refused k) f q = ap refused (refused-inj q)
bound_refused n (value a) f q = absurd (not_refused (sym q))

module _ (r : Result StoreTotals Refusal) (netlist : List ℕ) (class : ℕ) (ws ws' found left : List ℕ) (t : ExhaustTrue r netlist class ws ws' found left) where
  whole : (N : Netlist) → read_netlist netlist ≡ value N → (a b : ℕ) → r ≡ Ok (record { rising = a; falling = b })
      → Exhausted netlist N class ws' (record { on_rising = a; on_falling = b })
  whole N read a b p =
      let totals : ByEdge ℕ = record { on_rising = a; on_falling = b } in
      subst (λ s. Exhausted netlist N class s totals) (sym t.store)
      (exhaustive.whole netlist class ws found N read totals (sym t.answer ∙ ap totals_among p))

  module _ (w : Refusal) (p : r ≡ Err w) where
    answered : exhaust_answer netlist class ws found ≡ refused (refusal_number_of w)
    answered = sym t.answer ∙ ap totals_among p

    store_is : ws' ≡ exhaust_after (refused (refusal_number_of w)) ws
    unfolding exhaust_answer exhaust_store
    store_is =
        t.store ∙ ap (λ (x : Answer (List ℕ)). exhaust_after x ws) (bound_refused (refusal_number_of w) (exhaust_call netlist class ws found) _ answered)

  shows : ReturnedShows r netlist class ws ws' found left
  shows = record {
    whole = whole;
    emptied = λ w p o. store_is w p ∙ emptied-work (refusal_number_of w) ws o;
    store_found = λ w p o. store_is w p ∙ found-other (refusal_number_of w) ws o;
    work_found = λ w p o. t.work.not_applied (refusal_number_of w) (answered w p) o;
  }

pub exhaust_shows : ExhaustShows
exhaust_shows = record { returned = shows }
