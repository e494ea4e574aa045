-- The tests taken, of the values that the calls return: it follows from their promises and the same of the definitions.
use Rattle.model.proofs.Prelude.{ℕ, ◌≡◌, ◌∙◌, ap, refl, sym, subst, List, [], ◌∷◌, ◌++◌}
use mathlib.Core.List.{map-append, Permᴰ}
use Rattle.model.specs.Base.{value}
use Rattle.model.specs.Netlist.{Netlist}
use Rattle.model.specs.Read.{read_netlist}
use Rattle.model.specs.Store.{empty_store}
use Rattle.model.specs.Calls.{test_call, test_answer}
use Rattle.model.specs.Demand3.{Call, State, start, next, after_calls, Taken}
use Rattle.model.specs.Counted.{EachTaken, orders_of}
use Rattle.model.proofs.AnswerLaws.{steps}
use Rattle.model.proofs.CountedHolds.{counted-true}
use Rattle.store_coverage.specs.TestCall.{tested_of}
use Rattle.audit.specs.Promised.{MadeCall, TakenCall, Promised, last_store}
use Rattle.audit.specs.CountedCalls.{calls_of, AllCallsTaken, one_more_of, CountedCalls}
use Rattle.audit.proofs.PromisesHold.{state_of, state-after, promised_before, promised_at}

-- the last call of a list leaves the store
last-left : (first : List MadeCall) (k : MadeCall) (ws : List ℕ) → last_store ws (first ++ (k ∷ [])) ≡ k.left
last-left [] k ws = refl
last-left (m ∷ ms) k ws = last-left ms k m.left

module _ (netlist : List ℕ) (N : Netlist) (e : read_netlist netlist ≡ value N) where
  -- a call that was taken, as the definitions say it
  taken_at : (m : MadeCall) (s : State) → tested_of m.answer ≡ test_answer netlist m.call.class m.call.rec s.store m.call.work → TakenCall m
      → Taken netlist s m.call
  unfolding test_answer
  taken_at m s p t =
      let q = steps (test_call netlist m.call.class m.call.rec s.store m.call.work) (λ r. value r.returned) (sym p ∙ t.is) in
      record { tested = q.got; answer = q.first }

  pub each-taken : (ms : List MadeCall) (s : State) → Promised netlist s.store ms → AllCallsTaken ms → EachTaken netlist N s (calls_of ms)
  each-taken [] s p k = tt
  each-taken (m ∷ ms) s p k = (
    taken_at m s p.0.answer k.0,
    each-taken ms (next netlist N s m.call) (subst (λ ws. Promised netlist ws ms) p.0.store p.1) k.1,
  )

  pub store_is : (ms : List MadeCall) → Promised netlist empty_store ms → (after_calls netlist N start (calls_of ms)).store ≡ last_store empty_store ms
  store_is ms p = ap (λ (s : State). s.store) (state-after netlist N ms start p)

  orders : (ms ks : List MadeCall) → Promised netlist empty_store ms → Promised netlist empty_store ks → AllCallsTaken ms → AllCallsTaken ks
      → Permᴰ (orders_of (calls_of ms)) (orders_of (calls_of ks)) → last_store empty_store ms ≡ last_store empty_store ks
  orders ms ks p q k l perm =
      sym (store_is ms p)
      ∙ (counted-true netlist N e).orders (calls_of ms) (calls_of ks) perm (each-taken ms start p k) (each-taken ks start q l)
      ∙ store_is ks q

  module _ (before further : List MadeCall) (m k : MadeCall) (p : Promised netlist empty_store ((before ++ (m ∷ further)) ++ (k ∷ []))) where
    abbrev first : List MadeCall
    first = before ++ (m ∷ further)

    p₁ : Promised netlist empty_store first
    p₁ = promised_before netlist N first k [] empty_store p

    calls₁ : calls_of first ≡ calls_of before ++ (m.call ∷ calls_of further)
    calls₁ = map-append (λ (c : MadeCall). c.call) before (m ∷ further)

    calls₂ : calls_of (first ++ (k ∷ [])) ≡ (calls_of before ++ (m.call ∷ calls_of further)) ++ (k.call ∷ [])
    calls₂ = map-append (λ (c : MadeCall). c.call) first (k ∷ []) ∙ ap (λ (cs : List Call). cs ++ (k.call ∷ [])) calls₁

    taken₁ : TakenCall m → Taken netlist (after_calls netlist N start (calls_of before)) m.call
    taken₁ t =
        subst (λ (s : State). Taken netlist s m.call) (sym (state-after netlist N before start (promised_before netlist N before m further empty_store p₁)))
        (taken_at m (state_of N start before) (promised_at netlist N before m further empty_store p₁) t)

    taken₂ : TakenCall k → Taken netlist (after_calls netlist N start (calls_of before ++ (m.call ∷ calls_of further))) k.call
    taken₂ t =
        subst (λ (cs : List Call). Taken netlist (after_calls netlist N start cs) k.call) calls₁
        (subst (λ (s : State). Taken netlist s k.call) (sym (state-after netlist N first start p₁))
        (taken_at k (state_of N start first) (promised_at netlist N first k [] empty_store p) t))

    again : m.call.class ≡ k.call.class → m.call.rec ≡ k.call.rec → TakenCall m → TakenCall k → k.left ≡ one_more_of (last_store empty_store first)
    again g r t u =
        sym (last-left first k empty_store) ∙ sym (store_is (first ++ (k ∷ [])) p)
        ∙ ap (λ (cs : List Call). (after_calls netlist N start cs).store) calls₂
        ∙ (counted-true netlist N e).again (calls_of before) (calls_of further) m.call k.call g r (taken₁ t) (taken₂ u)
        ∙ ap (λ (cs : List Call). one_more_of (after_calls netlist N start cs).store) (sym calls₁)
        ∙ ap one_more_of (store_is first p₁)

  pub calls-counted : CountedCalls netlist N
  calls-counted = record { orders = orders; again = again }
