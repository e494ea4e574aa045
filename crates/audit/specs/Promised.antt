-- Demand 3 of the values that the calls return: each test call, the totals call, the writer and the audit meets its promise. Then ticket 8 of these.
use Rattle.std.specs.Prelude.{◌≡◌, ◌↔◌, not, ℕ, ◌≤◌, T, length, drop}
use mathlib.Core.List.{List, [], ◌∷◌, ◌++◌, map, Memᴰ}
use Rattle.model.specs.Base.{Answer, refused, value}
use Rattle.model.specs.Netlist.{Netlist}
use Rattle.model.specs.Path.{Edge, rising, falling, Fault, valid, number_of}
use Rattle.model.specs.Detect.{Class, Test}
use Rattle.model.specs.Read.{read_netlist, class_of}
use Rattle.model.specs.Runs.{in_runs}
use Rattle.model.specs.Store.{empty_store, store_runs, tests_taken_of, store_words_count}
use Rattle.model.specs.Calls.{FaultCounts, totals_call, work_words_count}
use Rattle.model.specs.Report.{file_records, report_buffer_bytes}
use Rattle.model.specs.Demand3.{Call, test_in, known_class, CountOf, Detected, RunsOfDetected, detected_by, NoRefusal, Returned, WhollyTaken, FileCalls, tests_of, TrueReport, NamesDetected, Acceptable}
use Rattle.model.specs.Unchanged.{Unchanged}
use Rattle.store_coverage.specs.TestCall.{tested_of}
use Rattle.single_call.specs.TestPromise.{TestTrue}
use Rattle.store.specs.Answers.{totals_among}
use Rattle.report.specs.Answers.{WriteTrue}
use Rattle.audit.specs.Answers.{AuditTrue}
use Rattle.std.specs.Prelude.{Result, Ok}
use Rattle.model.specs.declared.Refusal.{Refusal}
use Rattle.store_coverage.specs.declared.TestCounts.{TestCounts}
use Rattle.store_words.specs.declared.inner.StoreTotals.{StoreTotals}
use Rattle.model.specs.Returned.{answer_of}

-- A test call that was made: what it was handed besides netlist and store, what it returned, and the store and the working memory as it left them
pub record MadeCall : Type 0 where
  pub call : Call
  pub answer : Result TestCounts Refusal
  pub left : List ℕ
  pub work_left : List ℕ

-- Taken: the call was not refused
pub record TakenCall (m : MadeCall) : Type 0 where
  pub returned : FaultCounts
  pub is : tested_of m.answer ≡ value returned

-- The promise of each call of a list: the first gets the store `ws`, each later one the store as the call before left it
abbrev pub Promised : List ℕ → List ℕ → List MadeCall → Type 0
Promised netlist ws [] = Unit {0}
Promised netlist ws (m ∷ ms) = TestTrue m.answer netlist m.call.class m.call.rec ws m.left m.call.work m.work_left × Promised netlist m.left ms

-- the store after a list
abbrev pub last_store : List ℕ → List MadeCall → List ℕ
last_store ws [] = ws
last_store ws (m ∷ ms) = last_store m.left ms

-- a call's test before the others, if the call was taken
abbrev pub with_taken : Answer FaultCounts → Test → List Test → List Test
with_taken (refused n) t ts = ts
with_taken (value r) t ts = t ∷ ts

-- the tests of the taken calls of a list, and the tests `before`
abbrev pub taken_tests : Netlist → List Test → List MadeCall → List Test
taken_tests N before [] = before
taken_tests N before (m ∷ ms) = taken_tests N (with_taken (tested_of m.answer) (test_in N m.call) before) ms

-- What the totals call returned: for each edge the number of distinct faults that the tests detect
pub record TotalsTrue (N : Netlist) (ts : List Test) (r : Result StoreTotals Refusal) : Type 0 where
  pub on_rising : ℕ
  pub on_falling : ℕ
  pub returned : r ≡ Ok (record { rising = on_rising; falling = on_falling })
  pub rising_true : CountOf (Detected N ts rising) on_rising
  pub falling_true : CountOf (Detected N ts falling) on_falling

-- What is claimed after a list of calls on a legal netlist, from an empty store
pub record ListTrue (netlist : List ℕ) (N : Netlist) (ms : List MadeCall) : Type 0 where
  -- the store holds exactly the faults that some taken test detects
  pub holds_fault : (f : Fault) → T (valid N f.path)
      → T (in_runs (store_runs (last_store empty_store ms) f.edge) (number_of N f.path)) ↔ T (detected_by N (taken_tests N [] ms) f)
  pub holds_no_other : (e : Edge) → RunsOfDetected N (taken_tests N [] ms) e (store_runs (last_store empty_store ms) e)
  -- its third word is the number of calls taken
  pub tests_true : tests_taken_of (last_store empty_store ms) ≡ length (taken_tests N [] ms)
  -- the totals call then gives the numbers of distinct faults so detected
  pub totals_true : (r : Result StoreTotals Refusal) → totals_among r ≡ totals_call netlist (last_store empty_store ms) → TotalsTrue N (taken_tests N [] ms) r
  -- each call was taken exactly when no condition for refusing it holds, and a taken one returned true numbers
  pub taken_exactly : (before : List MadeCall) (m : MadeCall) (rest : List MadeCall) → ms ≡ before ++ (m ∷ rest)
      → TakenCall m ↔ NoRefusal N (taken_tests N [] before) m.call
  pub returned_true : (before : List MadeCall) (m : MadeCall) (rest : List MadeCall) → ms ≡ before ++ (m ∷ rest)
      → (r : FaultCounts) → tested_of m.answer ≡ value r → (e : Edge) → Returned N (taken_tests N [] before) (test_in N m.call) e r
  -- a call with memory long enough that was handed another class was refused 83
  pub other_class : (before : List MadeCall) (m : MadeCall) (rest : List MadeCall) → ms ≡ before ++ (m ∷ rest)
      → work_words_count ≤ length m.call.work → T (not (known_class m.call.class)) → tested_of m.answer ≡ refused 83

-- What the writer left and returned: the true report, which names exactly the faults that the tests detect, and the bytes past it as they were
pub record WrittenTrue (N : Netlist) (c : Class) (test_file found left : List ℕ) (r : Result ℕ Refusal) : Type 0 where
  pub report : List ℕ
  pub is_true : TrueReport N (tests_of N c test_file) report
  pub names : NamesDetected N (tests_of N c test_file) report
  pub returned : r ≡ Ok (length report)
  pub written : left ≡ report ++ drop (length report) found

-- Demand 3, of the values that the calls return
pub record CallsTrue : Type 0 where
  pub after_every_list : (netlist : List ℕ) (N : Netlist) → read_netlist netlist ≡ value N
      → (ms : List MadeCall) → Promised netlist empty_store ms → ListTrue netlist N ms
  pub writes : (netlist : List ℕ) (N : Netlist) → read_netlist netlist ≡ value N → (class : ℕ) → T (known_class class)
      → (test_file : List ℕ) → WhollyTaken N (class_of class) test_file
      → (ms : List MadeCall) → Promised netlist empty_store ms → FileCalls N class test_file (map (λ m. m.call) ms)
      → (found left : List ℕ) → report_buffer_bytes ≤ length found
      → (r : Result ℕ Refusal) → WriteTrue r netlist (last_store empty_store ms) found left
      → WrittenTrue N (class_of class) test_file found left r
  pub audits : (r : Result (Unit {0}) Refusal) (netlist : List ℕ) (class : ℕ) (test_file report ws ws' found left : List ℕ)
      → AuditTrue r netlist class test_file report ws ws' found left
      → (r ≡ Ok tt) ↔ Acceptable netlist class test_file report ws found
  -- and the report that it accepts names exactly the faults that the file's tests detect, judged in that class
  pub accepted_names : (r : Result (Unit {0}) Refusal) (netlist : List ℕ) (class : ℕ) (test_file report ws ws' found left : List ℕ)
      → AuditTrue r netlist class test_file report ws ws' found left
      → r ≡ Ok tt → (N : Netlist) → read_netlist netlist ≡ value N → NamesDetected N (tests_of N (class_of class) test_file) report
  -- on a legal netlist, with memory of 01's lengths, an audit that was handed another class was refused 83
  pub audits_other_class : (r : Result (Unit {0}) Refusal) (netlist : List ℕ) (class : ℕ) (test_file report ws ws' found left : List ℕ)
      → AuditTrue r netlist class test_file report ws ws' found left
      → (N : Netlist) → read_netlist netlist ≡ value N → T (not (known_class class)) → length ws ≡ store_words_count → work_words_count ≤ length found
      → answer_of r ≡ refused 83

-- Pairs that change nothing, of the value that the audit returns: a report whose list of tests holds one is not accepted
pub record PaddingRefused : Type 0 where
  pub not_accepted : (r : Result (Unit {0}) Refusal) (netlist : List ℕ) (class : ℕ) (test_file report ws ws' found left : List ℕ)
      → AuditTrue r netlist class test_file report ws ws' found left → (N : Netlist) → read_netlist netlist ≡ value N
      → (rec : List ℕ) → Memᴰ rec (file_records N test_file) → Unchanged N rec → r ≡ Ok tt → ⊥
