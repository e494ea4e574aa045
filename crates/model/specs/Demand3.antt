-- Demand 3, as one statement over every list of test calls on one legal netlist, each judged in the class that it is handed.
use Rattle.std.specs.Prelude.{◌≡◌, ◌↔◌, Bool, ◌&&◌, not, ℕ, ◌≤◌, ◌<◌, T, leb, eqb, length, drop}
use mathlib.Core.List.{List, [], ◌∷◌, ◌++◌, map, Memᴰ, Nodup}
use Rattle.model.specs.Base.{Answer, refused, value, all_of, any_of, checks}
use Rattle.model.specs.Netlist.{Netlist, path_total}
use Rattle.model.specs.Path.{CircuitPath, Edge, Fault, valid, number_of}
use Rattle.model.specs.Detect.{Class, Test, detects}
use Rattle.model.specs.Runs.{Run, in_runs, separated_runs_of, size, working_runs}
use Rattle.model.specs.Read.{within, read_netlist, class_of, test_of, test_rules}
use Rattle.model.specs.Store.{ByEdge, of_edge, empty_store, store_runs, tests_taken_of, store_words_count, max_runs, max_tests}
use Rattle.model.specs.Calls.{Tested, test_call, test_answer, test_store, FaultCounts, totals_call, work_words_count}
use Rattle.model.specs.Report.{writer_answer, writer_buffer, audit_answer, report_record, named_runs, whole_records, file_records, report_buffer_bytes}

-- There are exactly `n` distinct faults with a property: a list of them without a repeat has that length
pub record CountOf (P : Fault → Type 0) (n : ℕ) : Type 0 where
  pub faults : List Fault
  pub distinct : Nodup faults
  pub these : (f : Fault) → Memᴰ f faults ↔ P f
  pub many : length faults ≡ n

-- one of the tests detects the fault, each in its own class
unfoldable pub detected_by : Netlist → List Test → Fault → Bool
detected_by N ts f = any_of (λ t. detects N t f) ts

-- a fault of the netlist, of one edge, that one of the tests detects
pub record Detected (N : Netlist) (ts : List Test) (e : Edge) (f : Fault) : Type 0 where
  pub edge : f.edge ≡ e
  pub of_netlist : T (valid N f.path)
  pub detected : T (detected_by N ts f)

-- the number is that of a path whose fault of the edge one of the tests detects
pub record DetectedNumber (N : Netlist) (ts : List Test) (e : Edge) (k : ℕ) : Type 0 where
  pub path : CircuitPath
  pub number : number_of N path ≡ k
  pub detected : Detected N ts e (record { path = path; edge = e })

-- Hold exactly: the runs, ascending, hold exactly the numbers of the paths whose fault of the edge one of the tests detects
pub record RunsOfDetected (N : Netlist) (ts : List Test) (e : Edge) (rs : List Run) : Type 0 where
  pub runs : T (separated_runs_of (path_total N) 1 rs)
  pub exactly : (k : ℕ) → T (in_runs rs k) ↔ DetectedNumber N ts e k

-- what a test call is handed besides netlist and store
pub record Call : Type 0 where
  pub class : ℕ
  pub rec : List ℕ
  pub work : List ℕ

-- the store as left, and the tests of the calls taken
pub record State : Type 0 where
  pub store : List ℕ
  pub taken : List Test

-- the first call gets an empty store
abbrev pub start : State
start = record { store = empty_store; taken = [] }

abbrev pub with_test : Answer Tested → Test → List Test → List Test
with_test (refused n) t ts = ts
with_test (value r) t ts = t ∷ ts

-- the test of a call, in the class that it is handed
abbrev pub test_in : Netlist → Call → Test
test_in N c = test_of N (class_of c.class) c.rec

-- one more test call, on the store as the call before left it
abbrev pub next : List ℕ → Netlist → State → Call → State
next netlist N s c = record {
  store = test_store netlist c.class c.rec s.store c.work;
  taken = with_test (test_call netlist c.class c.rec s.store c.work) (test_in N c) s.taken;
}

-- A list of test calls, one after the other
unfoldable pub after_calls : List ℕ → Netlist → State → List Call → State
after_calls netlist N s [] = s
after_calls netlist N s (c ∷ cs) = after_calls netlist N (next netlist N s c) cs

-- No condition of the places Test and Work holds for a record in a class, nor 86, where `before` are the tests taken so far
pub record NoTestRefusal (N : Netlist) (before : List Test) (c : Class) (rec : List ℕ) : Type 0 where
  pub legal_record : checks (test_rules N rec) ≡ value tt
  pub few_tests : length before < max_tests
  pub few_working : (e : Edge) → working_runs N (test_of N c rec) e ≤ max_runs
  pub runs : Edge → List Run
  pub would_hold : (e : Edge) → RunsOfDetected N (test_of N c rec ∷ before) e (runs e)
  pub room : (e : Edge) → length (runs e) ≤ max_runs

-- class 1 or 2
abbrev pub known_class : ℕ → Bool
known_class class = within 1 2 class

-- No condition for refusing a test call of a list on a legal netlist holds. 1 and 40 to 42 are not named: that the call is taken exactly
-- when these conditions do not hold says also that 1 and 40 to 42 never hold for a store that such a list left
pub record NoRefusal (N : Netlist) (before : List Test) (c : Call) : Type 0 where
  pub memory : work_words_count ≤ length c.work
  pub known : T (known_class c.class)
  pub test : NoTestRefusal N before (class_of c.class) c.rec

-- Taken: the call is not refused
pub record Taken (netlist : List ℕ) (s : State) (c : Call) : Type 0 where
  pub tested : Tested
  pub answer : test_call netlist c.class c.rec s.store c.work ≡ value tested

-- What is claimed of a taken call: it returned the number of distinct faults that its test detects and no earlier taken call's test did,
-- and the number detected by then
pub record Returned (N : Netlist) (before : List Test) (t : Test) (e : Edge) (r : FaultCounts) : Type 0 where
  pub new_true : CountOf (λ f. Detected N (t ∷ []) e f × (T (detected_by N before f) → ⊥)) (of_edge r.new_faults e)
  pub held_true : CountOf (Detected N (t ∷ before) e) (of_edge r.held_faults e)

-- What is claimed of the store after a list of calls
pub record StoreTrue (netlist : List ℕ) (N : Netlist) (s : State) : Type 0 where
  -- a fault (output, pins, edge) is held exactly when a taken test detects it
  pub holds_fault : (f : Fault) → T (valid N f.path) → T (in_runs (store_runs s.store f.edge) (number_of N f.path)) ↔ T (detected_by N s.taken f)
  -- and no other number is in its runs
  pub holds_no_other : (e : Edge) → RunsOfDetected N s.taken e (store_runs s.store e)
  -- the third word is the number of calls taken
  pub tests_true : tests_taken_of s.store ≡ length s.taken
  -- the totals call gives for each edge the number of distinct faults so detected
  pub sums : ByEdge ℕ
  pub totals_gives : totals_call netlist s.store ≡ value sums
  pub totals_true : (e : Edge) → CountOf (Detected N s.taken e) (of_edge sums e)
  -- a further call is taken exactly when no condition for refusing it holds
  pub taken_exactly : (c : Call) → Taken netlist s c ↔ NoRefusal N s.taken c
  -- and what it then returned is true: in a list before ++ c ∷ rest the call c is made in the state that `before` left
  pub returned_true : (c : Call) (r : FaultCounts) → test_answer netlist c.class c.rec s.store c.work ≡ value r
      → (e : Edge) → Returned N s.taken (test_in N c) e r
  -- a call with memory long enough that is handed another class is refused 83
  pub other_class : (c : Call) → work_words_count ≤ length c.work → T (not (known_class c.class))
      → test_answer netlist c.class c.rec s.store c.work ≡ refused 83

-- every record is taken in the class, in order
abbrev pub AllTaken : Netlist → Class → List Test → List (List ℕ) → Type 0
AllTaken N c before [] = Unit {0}
AllTaken N c before (r ∷ rs) = NoTestRefusal N before c r × AllTaken N c (test_of N c r ∷ before) rs

-- Wholly taken in a class: 33 does not hold for the file, and the test calls with its records in file order are all taken
pub record WhollyTaken (N : Netlist) (c : Class) (test_file : List ℕ) : Type 0 where
  pub whole : T (whole_records N test_file)
  pub taken : AllTaken N c [] (file_records N test_file)

-- those test calls, all in one class, each with working memory long enough
abbrev pub file_call : ℕ → Call → Bool
file_call class c = eqb c.class class && leb work_words_count (length c.work)

pub record FileCalls (N : Netlist) (class : ℕ) (test_file : List ℕ) (calls : List Call) : Type 0 where
  pub records : map (λ c. c.rec) calls ≡ file_records N test_file
  pub handed : T (all_of (file_call class) calls)

-- the store that the file leaves, by such calls
abbrev pub left_by : List ℕ → Netlist → List Call → List ℕ
left_by netlist N calls = (after_calls netlist N start calls).store

-- the tests of a file, judged in a class
abbrev pub tests_of : Netlist → Class → List ℕ → List Test
tests_of N c test_file = map (test_of N c) (file_records N test_file)

-- True report of a file's tests: the number of its records, T, and for each edge the runs of the set of the detected faults' numbers, with
-- their number and the number of faults, each counted once
pub record TrueReport (N : Netlist) (ts : List Test) (report : List ℕ) : Type 0 where
  pub runs : ByEdge (List Run)
  pub of_tests : (e : Edge) → RunsOfDetected N ts e (of_edge runs e)
  pub faults : (e : Edge) → CountOf (Detected N ts e) (size (of_edge runs e))
  pub layout : report ≡ report_record (length ts) (path_total N) runs

-- Read from its bytes, a report names a fault exactly when one of the tests detects it, and no other number
pub record NamesDetected (N : Netlist) (ts : List Test) (report : List ℕ) : Type 0 where
  pub names_fault : (f : Fault) → T (valid N f.path) → T (in_runs (named_runs report f.edge) (number_of N f.path)) ↔ T (detected_by N ts f)
  pub names_no_other : (e : Edge) → RunsOfDetected N ts e (named_runs report e)

-- the writer makes the true report from the store that the file leaves in a class: the number of its records is in the store
pub record WriterTrue (netlist : List ℕ) (N : Netlist) (c : Class) (test_file left buffer : List ℕ) : Type 0 where
  pub report : List ℕ
  pub is_true : TrueReport N (tests_of N c test_file) report
  pub names : NamesDetected N (tests_of N c test_file) report
  pub returned : writer_answer netlist left buffer ≡ value (length report)
  pub written : writer_buffer netlist left buffer ≡ report ++ drop (length report) buffer

-- when an audit accepts: its memory has 01's lengths, the netlist is legal, the class is 1 or 2, and in that class the file is wholly taken and
-- the report is its true report
pub record Acceptable (netlist : List ℕ) (class : ℕ) (test_file report ws work : List ℕ) : Type 0 where
  pub store_length : length ws ≡ store_words_count
  pub work_length : work_words_count ≤ length work
  pub circuit : Netlist
  pub legal : read_netlist netlist ≡ value circuit
  pub known : T (known_class class)
  pub taken : WhollyTaken circuit (class_of class) test_file
  pub reported : TrueReport circuit (tests_of circuit (class_of class) test_file) report

-- Demand 3
pub record Demand3 : Type 0 where
  pub after_every_list : (netlist : List ℕ) (N : Netlist) → read_netlist netlist ≡ value N
      → (calls : List Call) → StoreTrue netlist N (after_calls netlist N start calls)
  pub writes : (netlist : List ℕ) (N : Netlist) → read_netlist netlist ≡ value N → (class : ℕ) → T (known_class class)
      → (test_file : List ℕ) → WhollyTaken N (class_of class) test_file → (calls : List Call) → FileCalls N class test_file calls
      → (buffer : List ℕ) → report_buffer_bytes ≤ length buffer → WriterTrue netlist N (class_of class) test_file (left_by netlist N calls) buffer
  pub audits : (netlist : List ℕ) (class : ℕ) (test_file report ws work : List ℕ)
      → (audit_answer netlist class test_file report ws work ≡ value tt) ↔ Acceptable netlist class test_file report ws work
  -- and the report that it accepts names exactly the faults that the file's tests detect, judged in that class
  pub accepted_names : (netlist : List ℕ) (class : ℕ) (test_file report ws work : List ℕ) → audit_answer netlist class test_file report ws work ≡ value tt
      → (N : Netlist) → read_netlist netlist ≡ value N → NamesDetected N (tests_of N (class_of class) test_file) report
  -- on a legal netlist, with memory of 01's lengths, an audit that is handed another class is refused 83
  pub audits_other_class : (netlist : List ℕ) (N : Netlist) → read_netlist netlist ≡ value N → (class : ℕ) → T (not (known_class class))
      → (test_file report ws work : List ℕ) → length ws ≡ store_words_count → work_words_count ≤ length work
      → audit_answer netlist class test_file report ws work ≡ refused 83
