-- The calls on the test file that an argument names: long working memory is not refused, and there is a report exactly where the tests are taken.
use Rattle.model.proofs.Prelude.{ℕ, ◌≤◌, ◌≡◌, ◌∙◌, ap, refl, true, Bool, false, ◌&&◌, List, [], ◌∷◌, length, ltb, le→leb, arith, rules, lt-ltb, le-leb}
use Rattle.model.specs.Base.{Answer, refused, value, ◌into◌, ◌then◌, checks}
use Rattle.model.specs.Netlist.{Netlist, path_total}
use Rattle.model.specs.Detect.{Class}
use Rattle.model.specs.Read.{read_netlist, class_of, class_rule}
use Rattle.model.specs.Store.{empty_store, tests_taken_of, runs_by_edge, store_rules}
use Rattle.model.specs.Calls.{work_words_count, store_rule}
use Rattle.model.specs.Report.{writer_call, test_all, file_records, whole_records, report_record, report_rule, report_buffer_bytes}
use Rattle.model.proofs.AnswerLaws.{steps, then-second, →checks}
use Rattle.model.proofs.FileLaws.{left-length, left-passes}
use Rattle.model.proofs.ReportLaws.{length-report}
use Rattle.testfile_walk.specs.Walked.{file_taken}
use Rattle.testfile_judged.specs.declared.Reported.{Reported}
use Rattle.testfile_judged.specs.TrueReport.{with_report}
use Rattle.testfile_judged.specs.Streams.{file_call, file_store, true_report, StreamReported}
use Rattle.testfile_argument.specs.declared.ToldReport.{ToldReport}
use Rattle.testfile_argument.specs.NamedTests.{FileReported, before_tests, tests_call, tests_store, tests_report, length_told, is_taken, TestsReported, TestsStored}

-- The report of a file by its name is that from its descriptor, whatever is told of the file
pub file-reported : (s : Reported) (whole : Bool) (netlist : List ℕ) (class : ℕ) (truth truth' space ws ws' work work' : List ℕ) → work_words_count ≡ length work
    → StreamReported s netlist class truth truth' space ws ws' work work'
    → FileReported (record { answer = s.answer; length = s.length; bytes = s.bytes; taken = s.taken; whole = whole }) netlist class truth truth' ws ws'
file-reported s whole netlist class truth truth' space ws ws' work work' e t =
    record {
      space = space;
      work = work;
      work' = work';
      enough = omega (arith, e);
      is_report = record { read = t.read; answer = t.answer; store = t.store; work_is = t.work_is };
    }

-- Working memory that is long enough is not refused
module _ (netlist : List ℕ) (class : ℕ) (test_file ws work : List ℕ) (h : work_words_count ≤ length work) where
  store_same : file_store netlist class test_file ws work ≡ tests_store netlist class test_file ws
  unfolding file_store file_call tests_store tests_call
  store_same = rw (le-leb work_words_count (length work) h) refl

  report-same : (truth : List ℕ) → true_report netlist class test_file ws work truth ≡ tests_report netlist class test_file ws truth
  unfolding true_report tests_report
  report-same truth = rw (le-leb work_words_count (length work) h) refl

-- The report of the file that was found: nothing is told of it, or its length
module _ (r : Reported) (netlist : List ℕ) (class : ℕ) (truth truth' ws ws' : List ℕ) (f : FileReported r netlist class truth truth' ws ws') where
  abbrev file : List ℕ
  file = f.is_report.read.test_file

  is-truth : truth' ≡ with_report (tests_report netlist class file ws truth) truth
  is-truth =
      f.is_report.read.truth_is
      ∙ ap (λ (x : Answer (List ℕ)). with_report x truth) (report-same netlist class file ws f.work f.enough truth)

  is_store : ws' ≡ tests_store netlist class file ws
  is_store = f.is_report.store ∙ store_same netlist class file ws f.work f.enough

  pub nothing-told : TestsReported (record { whole = false; bytes = r.bytes; length = 0 }) netlist class truth truth' ws ws'
  nothing-told = record { test_file = file; bytes_are = f.is_report.read.bytes_are; length_is = refl; truth_is = is-truth; store = is_store }

  pub length-told : TestsReported (record { whole = true; bytes = r.bytes; length = r.length }) netlist class truth truth' ws ws'
  length-told =
      record {
        test_file = file;
        bytes_are = f.is_report.read.bytes_are;
        length_is = f.is_report.read.length_is ∙ ap (length_told true) (report-same netlist class file ws f.work f.enough truth);
        truth_is = is-truth;
        store = is_store;
      }

-- The writer writes what a test file that is taken leaves
module _ (netlist : List ℕ) (N : Netlist) (e : read_netlist netlist ≡ value N) (c : Class) (test_file left : List ℕ) (t : file_taken N c test_file ≡ value left)
    (buffer : List ℕ) (l : report_buffer_bytes ≤ length buffer) where
  all-taken : test_all N c (file_records N test_file) empty_store ≡ value left
  unfolding file_taken
  all-taken = then-second (checks ((33, whole_records N test_file) ∷ [])) (test_all N c (file_records N test_file) empty_store) t

  writes : writer_call netlist left buffer ≡ value (report_record (tests_taken_of left) (path_total N) (runs_by_edge left))
  unfolding writer_call
  writes =
      let a : checks (store_rule left ∷ report_rule buffer ∷ []) ≡ value tt =
      →checks (store_rule left ∷ report_rule buffer ∷ [])
      (rw (left-length N c (file_records N test_file) left all-taken) tt, (le→leb report_buffer_bytes (length buffer) l, tt)) in
      let b : checks (store_rules (path_total N) left) ≡ value tt =
      →checks (store_rules (path_total N) left) (left-passes N c (file_records N test_file) left all-taken) in
      rw (a, e) (rw b refl)

-- So there is a report, of some length, exactly where the file is taken
module _ (netlist : List ℕ) (class : ℕ) (test_file buffer : List ℕ) (l : report_buffer_bytes ≤ length buffer) where
  of_records : (N : Netlist) → read_netlist netlist ≡ value N → (x : Answer (List ℕ)) → file_taken N (class_of class) test_file ≡ x
      → ltb 0 (length_told true (x into λ left. writer_call netlist left buffer)) ≡ is_taken x
  of_records N e (refused n) q = refl
  of_records N e (value left) q =
      let long = length-report (tests_taken_of left) (path_total N) (runs_by_edge left) in
      rw (writes netlist N e (class_of class) test_file left q buffer l) (lt-ltb 0 (length (report_record (tests_taken_of left) (path_total N) (runs_by_edge left))) (omega (arith, long)))

  of_places : (x : Answer Netlist) → ((N : Netlist) → x ≡ value N → read_netlist netlist ≡ value N)
      → ltb 0 (length_told true (x into λ N. file_taken N (class_of class) test_file into λ left. writer_call netlist left buffer))
      ≡ is_taken (x into λ N. file_taken N (class_of class) test_file)
  of_places (refused n) h = refl
  of_places (value N) h = of_records N (h N refl) (file_taken N (class_of class) test_file) refl

  of_circuit_lem : (ws : List ℕ) (N : Netlist) → before_tests netlist class ws ≡ value N → read_netlist netlist ≡ value N
  of_circuit_lem ws N e =
      let s = steps (checks (store_rule ws ∷ []) then read_netlist netlist) (λ M. checks (class_rule class ∷ []) then value M) e in
      then-second (checks (store_rule ws ∷ [])) (read_netlist netlist) s.first
      ∙ then-second (checks (class_rule class ∷ [])) (value s.got) s.second

  is-taken : (ws : List ℕ) → ltb 0 (length_told true (tests_report netlist class test_file ws buffer)) ≡ is_taken (tests_call netlist class test_file ws)
  unfolding tests_report tests_call
  is-taken ws = of_places (before_tests netlist class ws) (of_circuit_lem ws)

  taken-told : (whole : Bool) (ws : List ℕ)
      → ltb 0 (length_told whole (tests_report netlist class test_file ws buffer)) ≡ (whole && is_taken (tests_call netlist class test_file ws))
  taken-told false ws = refl
  taken-told true ws = is-taken ws

pub tests-stored : (r : ToldReport) (netlist : List ℕ) (class : ℕ) (truth truth' ws ws' : List ℕ) → report_buffer_bytes ≡ length truth
    → TestsReported r netlist class truth truth' ws ws'
    → TestsStored (record { whole = r.whole; bytes = r.bytes; taken = ltb 0 r.length }) netlist class ws ws'
tests-stored r netlist class truth truth' ws ws' e t =
    record {
      test_file = t.test_file;
      bytes_are = t.bytes_are;
      taken_is = ap (ltb 0) t.length_is ∙ taken-told netlist class t.test_file truth (omega (arith, e)) r.whole ws;
      store = t.store;
    }

-- what `search` finds the returns with
pub ruleset named-test-cases = (file-reported, nothing-told, length-told, tests-stored, rules)
