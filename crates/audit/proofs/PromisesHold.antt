-- Demand 3 of the values that the calls return: it follows from their promises and demand 3 of the definitions.
use Rattle.model.proofs.Prelude.{ℕ, ◌≡◌, ◌∙◌, ap, refl, sym, subst, List, [], ◌∷◌, ◌++◌, length}
use Rattle.model.specs.Base.{Answer, refused, value, ◌into◌}
use Rattle.model.specs.Netlist.{Netlist}
use Rattle.model.specs.Path.{rising, falling}
use Rattle.model.specs.Detect.{Test}
use Rattle.model.specs.Read.{read_netlist, class_of}
use Rattle.model.specs.Store.{ByEdge, empty_store}
use Rattle.model.specs.Calls.{Tested, test_call, test_answer, totals_call}
use Rattle.model.specs.Demand3 as demand
use Rattle.model.specs.Demand3.{State, start, test_in, next, after_calls, left_by, NoRefusal, StoreTrue}
use Rattle.model.proofs.AnswerLaws.{not_refused, value_inj, steps}
use Rattle.model.proofs.ReportsHold.{demand_3}
use Rattle.model.proofs.UnchangedHolds.{unchanged_pairs}
use Rattle.store_coverage.specs.TestCall.{tested_of}
use Rattle.store.specs.Answers.{totals_among}
use Rattle.audit.specs.CountedCalls.{calls_of}
use Rattle.audit.specs.Promised.{MadeCall, TakenCall, Promised, last_store, with_taken, taken_tests, TotalsTrue, ListTrue, CallsTrue, PaddingRefused}
use Rattle.std.specs.Prelude.{Result, Ok, Err}
use Rattle.model.specs.declared.Refusal.{Refusal}
use Rattle.store_words.specs.declared.inner.StoreTotals.{StoreTotals}
use Rattle.model.specs.Returned.{answer_of}

-- the state that a list of calls leaves, by what they answered and left
abbrev pub state_of : Netlist → State → List MadeCall → State
state_of N s ms = record { store = last_store s.store ms; taken = taken_tests N s.taken ms }

same_taken : (a : Answer Tested) (t : Test) (ts : List Test) → demand.with_test a t ts ≡ with_taken (a into λ r. value r.returned) t ts
same_taken (refused n) t ts = refl
same_taken (value r) t ts = refl

module _ (netlist : List ℕ) (N : Netlist) where
  pub state-after : (ms : List MadeCall) (s : State) → Promised netlist s.store ms → after_calls netlist N s (calls_of ms) ≡ state_of N s ms
  unfolding after_calls test_answer
  state-after [] s p = refl
  state-after (m ∷ ms) s p =
      let t : Test = test_in N m.call in
      let k : demand.with_test (test_call netlist m.call.class m.call.rec s.store m.call.work) t s.taken ≡ with_taken (tested_of m.answer) t s.taken =
      same_taken (test_call netlist m.call.class m.call.rec s.store m.call.work) t s.taken ∙ ap (λ a. with_taken a t s.taken) (sym p.0.answer) in
      let q : next netlist N s m.call ≡ record { store = m.left; taken = with_taken (tested_of m.answer) t s.taken } =
      λ i. record { store = sym p.0.store i; taken = k i } in
      ap (λ (x : State). after_calls netlist N x (calls_of ms)) q
      ∙ state-after ms (record { store = m.left; taken = with_taken (tested_of m.answer) t s.taken }) p.1

  -- the calls before one of a list, and that one
  pub promised_before : (before : List MadeCall) (m : MadeCall) (rest : List MadeCall) (ws : List ℕ) → Promised netlist ws (before ++ (m ∷ rest)) → Promised netlist ws before
  promised_before [] m rest ws p = tt
  promised_before (b ∷ bs) m rest ws p = (p.0, promised_before bs m rest b.left p.1)

  pub promised_at : (before : List MadeCall) (m : MadeCall) (rest : List MadeCall) (ws : List ℕ) → Promised netlist ws (before ++ (m ∷ rest))
      → tested_of m.answer ≡ test_answer netlist m.call.class m.call.rec (last_store ws before) m.call.work
  promised_at [] m rest ws p = p.0.answer
  promised_at (b ∷ bs) m rest ws p = promised_at bs m rest b.left p.1

  module _ (e : read_netlist netlist ≡ value N) where
    state-true : (ms : List MadeCall) → Promised netlist empty_store ms → StoreTrue netlist N (state_of N start ms)
    state-true ms p = subst (λ (s : State). StoreTrue netlist N s) (state-after ms start p) (demand_3.after_every_list netlist N e (calls_of ms))

    totals-true : (ms : List MadeCall) → Promised netlist empty_store ms → (r : Result StoreTotals Refusal) → totals_among r ≡ totals_call netlist (last_store empty_store ms)
        → TotalsTrue N (taken_tests N [] ms) r
    totals-true ms p r q =
        let s = state-true ms p in
        go r (q ∙ s.totals_gives)
      where
        go : (r : Result StoreTotals Refusal) → totals_among r ≡ value (state-true ms p).sums → TotalsTrue N (taken_tests N [] ms) r
        go (Err w) z = absurd (not_refused z)
        go (Ok t) z =
            let s = state-true ms p in
            let c : record { on_rising = t.rising; on_falling = t.falling } ≡ s.sums = value_inj z in
            record {
              on_rising = t.rising;
              on_falling = t.falling;
              returned = refl;
              rising_true = subst (λ (k : ℕ). demand.CountOf (demand.Detected N (taken_tests N [] ms) rising) k) (ap (λ (x : ByEdge ℕ). x.on_rising) (sym c)) (s.totals_true rising);
              falling_true = subst (λ (k : ℕ). demand.CountOf (demand.Detected N (taken_tests N [] ms) falling) k) (ap (λ (x : ByEdge ℕ). x.on_falling) (sym c)) (s.totals_true falling);
            }

    module _ (before : List MadeCall) (m : MadeCall) (rest : List MadeCall) (p : Promised netlist empty_store (before ++ (m ∷ rest))) where
      earlier : StoreTrue netlist N (state_of N start before)
      earlier = state-true before (promised_before before m rest empty_store p)

      answered : tested_of m.answer ≡ test_answer netlist m.call.class m.call.rec (last_store empty_store before) m.call.work
      answered = promised_at before m rest empty_store p

      taken→ : TakenCall m → NoRefusal N (taken_tests N [] before) m.call
      unfolding test_answer
      taken→ t =
          let s = steps (test_call netlist m.call.class m.call.rec (last_store empty_store before) m.call.work) (λ r. value r.returned) (sym answered ∙ t.is) in
          (earlier.taken_exactly m.call).0 (record { tested = s.got; answer = s.first })

      →taken : NoRefusal N (taken_tests N [] before) m.call → TakenCall m
      unfolding test_answer
      →taken n =
          let t = (earlier.taken_exactly m.call).1 n in
          record { returned = t.tested.returned; is = answered ∙ ap (λ (a : Answer Tested). a into λ r. value r.returned) t.answer }

    list-true : (ms : List MadeCall) → Promised netlist empty_store ms → ListTrue netlist N ms
    list-true ms p = record {
      holds_fault = (state-true ms p).holds_fault;
      holds_no_other = (state-true ms p).holds_no_other;
      tests_true = (state-true ms p).tests_true;
      totals_true = totals-true ms p;
      taken_exactly = λ before m rest q. (
        taken→ before m rest (subst (λ (x : List MadeCall). Promised netlist empty_store x) q p),
        →taken before m rest (subst (λ (x : List MadeCall). Promised netlist empty_store x) q p),
      );
      returned_true = λ before m rest q r a.
          let p' = subst (λ (x : List MadeCall). Promised netlist empty_store x) q p in
          (earlier before m rest p').returned_true m.call r (sym (answered before m rest p') ∙ a);
      other_class = λ before m rest q l k.
          let p' = subst (λ (x : List MadeCall). Promised netlist empty_store x) q p in
          answered before m rest p' ∙ (earlier before m rest p').other_class m.call l k;
    }

-- the answers, from their numbers and values
written_is : (r : Result ℕ Refusal) (n : ℕ) → answer_of r ≡ value n → r ≡ Ok n
written_is (Ok k) n e = ap Ok (value_inj e)
written_is (Err w) n e = absurd (not_refused e)

accepted_is : (r : Result (Unit {0}) Refusal) → answer_of r ≡ value tt → r ≡ Ok tt
accepted_is (Ok tt) e = refl
accepted_is (Err w) e = absurd (not_refused e)

-- Demand 3
pub calls-true : CallsTrue
calls-true = record {
  after_every_list = λ netlist N e ms p. list-true netlist N e ms p;
  writes = λ netlist N e class k test_file h ms p f found left l r w.
      let s : left_by netlist N (calls_of ms) ≡ last_store empty_store ms = ap (λ (x : State). x.store) (state-after netlist N ms start p) in
      let t = subst (λ (x : List ℕ). demand.WriterTrue netlist N (class_of class) test_file x found) s (demand_3.writes netlist N e class k test_file h (calls_of ms) f found l) in
      record {
        report = t.report;
        is_true = t.is_true;
        names = t.names;
        returned = written_is r (length t.report) (w.answer ∙ t.returned);
        written = w.buffer ∙ t.written;
      };
  audits = λ r netlist class test_file report ws ws' found left a. (
    λ q. (demand_3.audits netlist class test_file report ws found).0 (sym a.answer ∙ ap answer_of q),
    λ q. accepted_is r (a.answer ∙ (demand_3.audits netlist class test_file report ws found).1 q),
  );
  accepted_names = λ r netlist class test_file report ws ws' found left a q.
      demand_3.accepted_names netlist class test_file report ws found (sym a.answer ∙ ap answer_of q);
  audits_other_class = λ r netlist class test_file report ws ws' found left a N e k l m.
      a.answer ∙ demand_3.audits_other_class netlist N e class k test_file report ws found l m;
}

-- Ticket 8
pub padding_refused : PaddingRefused
padding_refused = record {
  not_accepted = λ r netlist class test_file report ws ws' found left a N e rec m u q.
      unchanged_pairs.not_accepted netlist N e class test_file report ws found rec m u (sym a.answer ∙ ap answer_of q);
}
