-- Which numbers a refusal can have: after the lent memory every refusal is over 2, so that a refused audit leaves the store as found or all zeros.
use Rattle.model.proofs.Prelude.{ℕ, ◌≤◌, ◌<◌, ◌+◌, ◌*◌, suc, zero, ◌≡◌, ◌∙◌, ap, refl, subst, true, Bool, false, List, [], ◌∷◌, ◌++◌, length}
use Rattle.model.proofs.Prelude.{get_or, drop, T, eqb, ltb, ltb→lt, arith, le-leb, lt-leb}
use Rattle.model.specs.Base.{Answer, refused, value, ◌into◌, ◌then◌, check, Rule, checks, all_of, field}
use Rattle.model.specs.Netlist.{Netlist, Gate, net_by_net, gate_count, output_count, path_total}
use Rattle.model.specs.Detect.{Class}
use Rattle.model.specs.Read.{read_gates, read_outputs_of, read_netlist, gate_rules, output_rules, header_rules, gate_in, count_in, inputs_in, gates_in, outputs_in, input_counts, class_of, class_rule}
use Rattle.model.specs.Read.{test_of}
use Rattle.model.specs.Store.{tests_taken_of, empty_store, runs_by_edge}
use Rattle.model.specs.Calls.{store_left, tested, store_rule, work_rule, stage_rules, test_stage, before_test}
use Rattle.model.specs.Report.{whole_records, file_records, test_all, report_record, report_rules, audit_call, audit_after, audit_store}
use Rattle.model.proofs.BoolLaws.{and_left, and_right}

-- The answer's refusal, if it is one, has a number over `k`
abbrev pub RefusesOver : {A : Type 0} → ℕ → Answer A → Type 0
RefusesOver k (refused n) = k < n
RefusesOver k (value a) = Unit {0}

pub refused_over : {A : Type 0} (k n : ℕ) (m : Answer A) → RefusesOver k m → m ≡ refused n → k < n
refused_over {A} k n m o q = subst (λ (a : Answer A). RefusesOver k a) q o

pub refused-inj : {A : Type 0} {m n : ℕ} → ◌≡◌ {A = Answer A} (refused m) (refused n) → m ≡ n
refused-inj p = cc

over-then : {A B : Type 0} (k : ℕ) (m : Answer A) (n : Answer B) → RefusesOver k m → RefusesOver k n → RefusesOver k (m then n)
over-then k (refused j) n o p = o
over-then k (value a) n o p = p

over-bind : {A B : Type 0} (k : ℕ) (m : Answer A) (f : A → Answer B) → RefusesOver k m → ((a : A) → RefusesOver k (f a)) → RefusesOver k (m into f)
over-bind k (refused j) f o p = o
over-bind k (value a) f o p = p a

over-check : (k n : ℕ) (b : Bool) → k < n → RefusesOver k (check n b)
over-check k n true h = tt
over-check k n false h = h

-- rules whose numbers are all over `k`
abbrev pub number_over : ℕ → Rule → Bool
number_over k r = ltb k r.0

pub over-checks : (k : ℕ) (rs : List Rule) → T (all_of (number_over k) rs) → RefusesOver k (checks rs)
over-checks k [] t = tt
over-checks k (r ∷ rs) t =
    over-then k (check r.0 r.1) (checks rs)
    (over-check k r.0 r.1 (ltb→lt k r.0 (and_left (ltb k r.0) (all_of (number_over k) rs) t)))
    (over-checks k rs (and_right (ltb k r.0) (all_of (number_over k) rs) t))

-- Header to Netlist end
gates-over : (n : ℕ) (cs bs : List ℕ) → RefusesOver 2 (read_gates n cs bs)
unfolding read_gates
gates-over zero cs bs = tt
gates-over (suc n) cs bs =
    let more = read_gates n (cs ++ (count_in cs bs ∷ [])) (drop (4 + 2 * get_or bs 3 0) bs) in
    over-bind 2 (checks (gate_rules (length cs) cs bs) then more) (λ r. value (gate_in bs ∷ r.0, r.1))
    (over-then 2 (checks (gate_rules (length cs) cs bs)) more (over-checks 2 (gate_rules (length cs) cs bs) tt) (gates-over n _ _))
    (λ r. tt)

outputs-over : (n inputs nets : ℕ) (cs : List ℕ) (least s : ℕ) (bs : List ℕ) → RefusesOver 2 (read_outputs_of n inputs nets cs least s bs)
unfolding read_outputs_of
outputs-over zero inputs nets cs least s bs = tt
outputs-over (suc n) inputs nets cs least s bs =
    let rules = output_rules inputs nets cs least s bs in
    let more = read_outputs_of n inputs nets cs (suc (field 2 2 bs)) (s + output_count inputs cs (field 2 2 bs)) (drop 4 bs) in
    over-bind 2 (checks rules then more) (λ r. value (field 2 2 bs ∷ r.0, r.1))
    (over-then 2 (checks rules) more (over-checks 2 rules tt) (outputs-over n inputs nets cs _ _ _))
    (λ r. tt)

pub netlist-over : (bs : List ℕ) → RefusesOver 2 (read_netlist bs)
unfolding read_netlist
netlist-over bs =
    let gs = read_gates (gates_in bs) (input_counts bs) (drop 8 bs) in
    let os : List Gate × List ℕ → Answer (List ℕ × List ℕ) =
    λ g. read_outputs_of (outputs_in bs) (inputs_in bs) (inputs_in bs + gates_in bs) (net_by_net gate_count 0 (input_counts bs) g.0) 0 0 g.1 in
    let end : List Gate × List ℕ → List ℕ × List ℕ → Answer Netlist =
    λ g o. checks ((20, eqb (length o.1) 0) ∷ []) then value (record { inputs = inputs_in bs; gates = g.0; outputs = o.0 }) in
    over-bind 2 (checks (header_rules bs) then gs) (λ g. os g into end g)
    (over-then 2 (checks (header_rules bs)) gs (over-checks 2 (header_rules bs) tt) (gates-over (gates_in bs) (input_counts bs) (drop 8 bs)))
    (λ g. over-bind 2 (os g) (end g) (outputs-over _ _ _ _ _ _ _)
    (λ o. over-then 2 (checks ((20, eqb (length o.1) 0) ∷ [])) _ (over-checks 2 ((20, eqb (length o.1) 0) ∷ []) tt) tt))

-- Test, Store and Work
pub stage-over : (N : Netlist) (c : Class) (rec ws : List ℕ) → RefusesOver 2 (test_stage N c rec ws)
unfolding test_stage
stage-over N c rec ws =
    over-then 2 (checks (stage_rules N c rec ws)) (value (tested N (tests_taken_of ws) (runs_by_edge ws) (test_of N c rec))) (over-checks 2 (stage_rules N c rec ws) tt) tt

pub all-over : (N : Netlist) (c : Class) (recs : List (List ℕ)) (ws : List ℕ) → RefusesOver 2 (test_all N c recs ws)
unfolding test_all
all-over N c [] ws = tt
all-over N c (r ∷ rs) ws =
    over-bind 2 (test_stage N c r ws) (λ d. test_all N c rs (store_left d)) (stage-over N c r ws) (λ d. all-over N c rs (store_left d))

-- Report
pub report-over : (report written : List ℕ) → RefusesOver 2 (checks (report_rules report written))
report-over report written = over-checks 2 (report_rules report written) tt

-- The store after an audit that is refused
pub emptied-over : (n : ℕ) (ws : List ℕ) → 2 < n → audit_after (refused n) ws ≡ empty_store
emptied-over n ws h = rw (lt-leb n 2 h, audit_after) refl

pub found-under : (n : ℕ) (ws : List ℕ) → n ≤ 2 → audit_after (refused n) ws ≡ ws
found-under n ws h = rw (le-leb n 2 h, audit_after) refl

module _ (netlist : List ℕ) (class : ℕ) (test_file report ws work : List ℕ) where
  abbrev lent : Answer (Unit {0})
  lent = checks (store_rule ws ∷ work_rule work ∷ [])

  -- the class, after the netlist's checks
  abbrev a_class : Answer (Unit {0})
  a_class = checks (class_rule class ∷ [])

  -- after the lent memory, netlist and class
  audit_rest : Netlist → Answer (List ℕ)
  audit_rest N =
      checks ((33, whole_records N test_file) ∷ [])
      then test_all N (class_of class) (file_records N test_file) empty_store
      into λ left. checks (report_rules report (report_record (length (file_records N test_file)) (path_total N) (runs_by_edge left)))
      then value left

  rest_over : (N : Netlist) → RefusesOver 2 (audit_rest N)
  unfolding audit_rest
  rest_over N =
      let whole = checks ((33, whole_records N test_file) ∷ []) in
      let rules : List ℕ → List Rule = λ left. report_rules report (report_record (length (file_records N test_file)) (path_total N) (runs_by_edge left)) in
      let tests = test_all N (class_of class) (file_records N test_file) empty_store in
      over-bind 2 (whole then tests) (λ left. checks (rules left) then value left)
      (over-then 2 whole tests (over-checks 2 ((33, whole_records N test_file) ∷ []) tt) (all-over N (class_of class) (file_records N test_file) empty_store))
      (λ left. over-then 2 (checks (rules left)) (value left) (report-over report _) tt)

  lent-number : (n : ℕ) (a b : Bool) → checks ((1, a) ∷ (2, b) ∷ []) ≡ refused n → n ≤ 2
  lent-number n false b q = let e = refused-inj q in omega arith
  lent-number n true false q = let e = refused-inj q in omega arith
  lent-number n true true q = let z : ◌≡◌ {A = ℕ} 0 1 = cc in absurd (omega arith)

  -- Refused by the lent memory, the audit leaves the store as found
  pub audit_found : (n : ℕ) → lent ≡ refused n → audit_store netlist class test_file report ws work ≡ ws
  unfolding audit_call audit_store
  audit_found n q = rw q (found-under n ws (lent-number n (store_rule ws).1 (work_rule work).1 q))

  -- Refused by a later place, it leaves the store all zeros
  pub audit_emptied : (n : ℕ) → lent ≡ value tt → audit_call netlist class test_file report ws work ≡ refused n → audit_store netlist class test_file report ws work ≡ empty_store
  unfolding audit_call audit_store audit_rest
  audit_emptied n p q =
      let o : RefusesOver 2 (before_test netlist class ws work into audit_rest) =
      over-bind 2 (before_test netlist class ws work) audit_rest
      (over-bind 2 (lent then read_netlist netlist) (λ N. a_class then value N) (rw p (netlist-over netlist))
      (λ N. over-then 2 a_class (value N) (over-checks 2 (class_rule class ∷ []) tt) tt)) rest_over in
      ap (λ (a : Answer (List ℕ)). audit_after a ws) q ∙ emptied-over n ws (refused_over 2 n (before_test netlist class ws work into audit_rest) o q)

  -- Accepted, it leaves the store that the test calls left
  pub audit_kept : (left : List ℕ) → audit_call netlist class test_file report ws work ≡ value left → audit_store netlist class test_file report ws work ≡ left
  unfolding audit_store
  audit_kept left q = ap (λ (a : Answer (List ℕ)). audit_after a ws) q

  -- the places, one after the other
  module _ (p : lent ≡ value tt) where
    pub audit_at-netlist : (n : ℕ) → read_netlist netlist ≡ refused n → audit_call netlist class test_file report ws work ≡ refused n
    unfolding audit_call
    audit_at-netlist n q = rw (p, q) refl

    module _ (N : Netlist) (e : read_netlist netlist ≡ value N) where
      pub audit_at-class : (n : ℕ) → a_class ≡ refused n → audit_call netlist class test_file report ws work ≡ refused n
      unfolding audit_call
      audit_at-class n q = rw (p, e) (rw q refl)

      module _ (k : a_class ≡ value tt) where
        pub audit_at-file : (n : ℕ) → checks ((33, whole_records N test_file) ∷ []) ≡ refused n → audit_call netlist class test_file report ws work ≡ refused n
        unfolding audit_call
        audit_at-file n q = rw (p, e) (rw k (rw q refl))

        module _ (f : checks ((33, whole_records N test_file) ∷ []) ≡ value tt) where
          pub audit_at-tests : (n : ℕ) → test_all N (class_of class) (file_records N test_file) empty_store ≡ refused n → audit_call netlist class test_file report ws work ≡ refused n
          unfolding audit_call
          audit_at-tests n q = rw (p, e) (rw k (rw (f, q) refl))

          module _ (left : List ℕ) (t : test_all N (class_of class) (file_records N test_file) empty_store ≡ value left) where
            pub audit_at-report : (n : ℕ)
                → checks (report_rules report (report_record (length (file_records N test_file)) (path_total N) (runs_by_edge left))) ≡ refused n
                → audit_call netlist class test_file report ws work ≡ refused n
            unfolding audit_call
            audit_at-report n q = rw (p, e) (rw k (rw (f, t) (rw q refl)))

            pub audit_at-end : checks (report_rules report (report_record (length (file_records N test_file)) (path_total N) (runs_by_edge left))) ≡ value tt
                → audit_call netlist class test_file report ws work ≡ value left
            unfolding audit_call
            audit_at-end q = rw (p, e) (rw k (rw (f, t) (rw q refl)))
