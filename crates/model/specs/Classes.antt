-- What the two classes mean for one another.
-- proofs/ClassesHold.antt has the theorem, for every netlist.
use Rattle.std.specs.Prelude.{◌≡◌, Bool, List, ℕ, T, get_or}
use Rattle.model.specs.Base.{value}
use Rattle.model.specs.Netlist.{Netlist}
use Rattle.model.specs.Path.{Fault, valid, number_of}
use Rattle.model.specs.Detect.{Class, nonRobust, robust, Test, evaluate, no_evaluation, detects}
use Rattle.model.specs.Runs.{in_runs}
use Rattle.model.specs.Read.{read_netlist}
use Rattle.model.specs.Report.{named_runs, audit_answer}
use Rattle.model.specs.Demand3.{detected_by, tests_of}

-- the test, judged in a class
abbrev pub judged_in : Class → Test → Test
judged_in c t = record { v1 = t.v1; v2 = t.v2; class = c }

-- the report names the fault, read from its bytes
abbrev pub names : Netlist → List ℕ → Fault → Bool
names N report f = in_runs (named_runs report f.edge) (number_of N f.path)

pub record ClassesTrue (N : Netlist) : Type 0 where
  -- Every test's robust faults are among its non-robust ones
  pub robust_among_non_robust : (t : Test) (f : Fault) → T (detects N (judged_in robust t) f) → T (detects N (judged_in nonRobust t) f)
  -- a steady net has one value under both vectors
  pub steady_same : (v1 v2 : List Bool) (net : ℕ) → T (get_or (evaluate N v1 v2) net no_evaluation).steady
      → (get_or (evaluate N v1 v2) net no_evaluation).under_v1 ≡ (get_or (evaluate N v1 v2) net no_evaluation).under_v2
  -- A report that the audit accepts in class 2 names only faults that the file's tests detect in class 1
  pub robust_report : (netlist test_file report ws work : List ℕ) → read_netlist netlist ≡ value N → audit_answer netlist 2 test_file report ws work ≡ value tt
      → (f : Fault) → T (valid N f.path) → T (names N report f) → T (detected_by N (tests_of N nonRobust test_file) f)
  -- and so only faults that the report names which the audit accepts in class 1 for the same file
  pub robust_report_names : (netlist test_file inClass1 inClass2 ws work : List ℕ) → read_netlist netlist ≡ value N
      → audit_answer netlist 1 test_file inClass1 ws work ≡ value tt → audit_answer netlist 2 test_file inClass2 ws work ≡ value tt
      → (f : Fault) → T (valid N f.path) → T (names N inClass2 f) → T (names N inClass1 f)
