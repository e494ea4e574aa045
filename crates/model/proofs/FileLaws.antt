-- The test calls with the records of a file, as the audit makes them: the store that they leave, and when all are taken.
-- The idea: each record's test stage keeps the fact that the store counts the tests so far and holds exactly what they detect.
use Rattle.model.proofs.Prelude.{ℕ, ◌+◌, suc, ◌≡◌, ◌∙◌, ap, refl, sym, subst, false, ◌||◌, or-false, List, [], ◌∷◌, ◌++◌, map, length}
use Rattle.model.proofs.Prelude.{length-map, leb, T, eqb, leb→le, eqb→eq, arith}
use Rattle.model.specs.Base.{value, all_of}
use Rattle.model.specs.Netlist.{Netlist, path_total}
use Rattle.model.specs.Detect.{Class, Test, detects_number}
use Rattle.model.specs.Read.{read_netlist, class_of, test_of}
use Rattle.model.specs.Store.{store_words_count, empty_store, tests_taken_of, store_rules}
use Rattle.model.specs.Calls.{Tested, store_left, test_stage, test_call, test_store, work_words_count}
use Rattle.model.specs.Report.{test_all, whole_records, file_records}
use Rattle.model.specs.Demand3.{Call, State, start, next, after_calls, known_class, AllTaken, WhollyTaken, file_call, FileCalls, left_by, tests_of}
use Rattle.model.proofs.WellFormed.{WellFormed}
use Rattle.model.proofs.BoolLaws.{and_left, and_right, or_around}
use Rattle.model.proofs.ListLaws.{all_of_head, all_of_tail}
use Rattle.model.proofs.AnswerLaws.{AllPass, Passed, steps, value_inj}
use Rattle.model.proofs.ReadLaws.{legal}
use Rattle.model.proofs.FaultLaws.{detected_at}
use Rattle.model.proofs.HoldingLaws.{Sets, Holding, with_test, holding-empty, holding-same, holding-length, holding-passes, holding-next, stage-tests}
use Rattle.model.proofs.StoreLaws.{tests-store}
use Rattle.model.proofs.DemandHolds.{HoldsTests, Holds, holds-start, holds-next, stage→, →stage, stage-holding, stage-call}

-- The store that test calls leave holds also what their tests detect
pub all-holding : (N : Netlist) (c : Class) (recs : List (List ℕ)) (ws : List ℕ) (D : Sets) (left : List ℕ) → Holding N ws D → test_all N c recs ws ≡ value left
    → Holding N left (λ d k. detected_at N (map (test_of N c) recs) d k || D d k)
unfolding test_all detected_at
all-holding N c [] ws D left x q = subst (λ s. Holding N s D) (value_inj q) x
all-holding N c (r ∷ rs) ws D left x q =
    let s = steps (test_stage N c r ws) (λ t. test_all N c rs (store_left t)) q in
    holding-same N left (λ d k. detected_at N (map (test_of N c) rs) d k || with_test N (test_of N c r) D d k)
    (λ d k. detected_at N (map (test_of N c) (r ∷ rs)) d k || D d k)
    (λ d k. or_around (detects_number N (test_of N c r) d k) (detected_at N (map (test_of N c) rs) d k) (D d k))
    (all-holding N c rs (store_left s.got) (with_test N (test_of N c r) D) left (holding-next N c r ws D x s.got s.first) s.second)

-- and counts them
pub all-counted : (N : Netlist) (c : Class) (recs : List (List ℕ)) (ws : List ℕ) (D : Sets) (left : List ℕ) → Holding N ws D → test_all N c recs ws ≡ value left
    → tests_taken_of left ≡ length recs + tests_taken_of ws
unfolding test_all
all-counted N c [] ws D left x q = ap tests_taken_of (sym (value_inj q)) ∙ omega arith
all-counted N c (r ∷ rs) ws D left x q =
    let s = steps (test_stage N c r ws) (λ t. test_all N c rs (store_left t)) q in
    let one : tests_taken_of (store_left s.got) ≡ suc (tests_taken_of ws) =
    tests-store s.got.tests s.got.runs ∙ stage-tests N c r ws D x s.got s.first in
    omega (arith, one, all-counted N c rs (store_left s.got) (with_test N (test_of N c r) D) left (holding-next N c r ws D x s.got s.first) s.second)

-- From an empty store they leave one that counts them, holds exactly that, has its length and passes the rules
module _ (N : Netlist) (c : Class) (recs : List (List ℕ)) (left : List ℕ) (q : test_all N c recs empty_store ≡ value left) where
  pub left-holding : HoldsTests N (map (test_of N c) recs) left
  left-holding =
      let ts : List Test = map (test_of N c) recs in
      record {
        holding = holding-same N left (λ d k. detected_at N ts d k || false) (detected_at N ts) (λ d k. or-false (detected_at N ts d k))
            (all-holding N c recs empty_store (λ d k. false) left (holding-empty N) q);
        counted = all-counted N c recs empty_store (λ d k. false) left (holding-empty N) q ∙ omega (arith, length-map recs (test_of N c));
      }

  pub left-length : length left ≡ store_words_count
  left-length = holding-length N left (detected_at N (map (test_of N c) recs)) left-holding.holding

  pub left-passes : AllPass (store_rules (path_total N) left)
  left-passes = holding-passes N left (detected_at N (map (test_of N c) recs)) left-holding.holding

-- All records are taken exactly when the test calls with them give a store
module _ (N : Netlist) (w : WellFormed N) (c : Class) where
  pub all→ : (recs : List (List ℕ)) (ts : List Test) (ws : List ℕ) → HoldsTests N ts ws → (left : List ℕ) → test_all N c recs ws ≡ value left
      → AllTaken N c ts recs
  unfolding test_all
  all→ [] ts ws x left q = tt
  all→ (r ∷ rs) ts ws x left q =
      let s = steps (test_stage N c r ws) (λ t. test_all N c rs (store_left t)) q in
      (stage→ N w ts ws x c r s.got s.first, all→ rs (test_of N c r ∷ ts) _ (stage-holding N w ts ws x c r s.got s.first) left s.second)

  pub →all : (recs : List (List ℕ)) (ts : List Test) (ws : List ℕ) → HoldsTests N ts ws → AllTaken N c ts recs → Passed (test_all N c recs ws)
  unfolding test_all
  →all [] ts ws x k = record { got = ws; is = refl }
  →all (r ∷ rs) ts ws x k =
      let q = →stage N w ts ws x c r k.0 in
      let ih = →all rs (test_of N c r ∷ ts) _ (stage-holding N w ts ws x c r _ q) k.1 in
      record { got = ih.got; is = rw q ih.is }

abbrev records_of : List Call → List (List ℕ)
records_of calls = map (λ c. c.rec) calls

module _ (netlist : List ℕ) (N : Netlist) (e : read_netlist netlist ≡ value N) where
  store-after : (s : State) (c : Call) (r : Tested) → test_call netlist c.class c.rec s.store c.work ≡ value r → (next netlist N s c).store ≡ store_left r
  unfolding test_store
  store-after s c r q = rw q refl

  -- Calls in one class with working memory long enough leave the store that the audit reaches with their records
  module _ (class : ℕ) (k : T (known_class class)) where
    pub calls-left : (calls : List Call) (s : State) → Holds N s → T (all_of (file_call class) calls) → (left : List ℕ)
        → test_all N (class_of class) (records_of calls) s.store ≡ value left → (after_calls netlist N s calls).store ≡ left
    unfolding test_all after_calls
    calls-left [] s x l left q = value_inj q
    calls-left (c ∷ cs) s x l left q =
        let p = steps (test_stage N (class_of class) c.rec s.store) (λ t. test_all N (class_of class) (records_of cs) (store_left t)) q in
        let h : T (file_call class c) = all_of_head (file_call class) c cs l in
        let m : c.class ≡ class = eqb→eq c.class class (and_left (eqb c.class class) (leb work_words_count (length c.work)) h) in
        let a = stage-call netlist N e s x c (leb→le work_words_count (length c.work) (and_right (eqb c.class class) (leb work_words_count (length c.work)) h))
        (subst (λ j. T (known_class j)) (sym m) k) p.got (subst (λ j. test_stage N (class_of j) c.rec s.store ≡ value p.got) (sym m) p.first) in
        calls-left cs (next netlist N s c) (holds-next netlist N e s x c) (all_of_tail (file_call class) c cs l) left
        (subst (λ ws. test_all N (class_of class) (records_of cs) ws ≡ value left) (sym (store-after s c p.got a)) p.second)

  -- a list is its first calls, then the others on the state that those left
  pub calls-append : (before rest : List Call) (s : State) → after_calls netlist N s (before ++ rest) ≡ after_calls netlist N (after_calls netlist N s before) rest
  unfolding after_calls
  calls-append [] rest s = refl
  calls-append (c ∷ cs) rest s = calls-append cs rest (next netlist N s c)

module _ (netlist : List ℕ) (N : Netlist) (e : read_netlist netlist ≡ value N) (c : Class) (test_file : List ℕ) where
  -- A file is wholly taken exactly when 33 does not hold and the audit's test calls give a store
  pub file-passes : WhollyTaken N c test_file → Passed (test_all N c (file_records N test_file) empty_store)
  file-passes h = →all N (legal netlist N e) c (file_records N test_file) [] empty_store (holds-start N) h.taken

  pub file-taken : (left : List ℕ) → T (whole_records N test_file) → test_all N c (file_records N test_file) empty_store ≡ value left → WhollyTaken N c test_file
  file-taken left h q = record { whole = h; taken = all→ N (legal netlist N e) c (file_records N test_file) [] empty_store (holds-start N) left q }

-- and then leaves that store
pub file-left : (netlist : List ℕ) (N : Netlist) → read_netlist netlist ≡ value N → (class : ℕ) → T (known_class class) → (test_file : List ℕ)
    → (calls : List Call) → FileCalls N class test_file calls → (left : List ℕ) → test_all N (class_of class) (file_records N test_file) empty_store ≡ value left
    → left_by netlist N calls ≡ left
file-left netlist N e class k test_file calls f left q =
    calls-left netlist N e class k calls start (holds-start N) f.handed left
    (subst (λ rs. test_all N (class_of class) rs empty_store ≡ value left) (sym f.records) q)

pub length-tests_of : (N : Netlist) (c : Class) (test_file : List ℕ) → length (file_records N test_file) ≡ length (tests_of N c test_file)
length-tests_of N c test_file = sym (length-map (file_records N test_file) (test_of N c))
