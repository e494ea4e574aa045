-- The report record, the writer and the audit, each as a function of what it is handed.
-- Names: class is the number of a class, for all records of a file; test_file is the bytes that an audit is handed as test records,
-- report those that it is handed as report; testCount is a number of tests.
use Rattle.std.specs.Prelude.{Bool, true, false, ◌&&◌, List, [], ◌∷◌, ◌++◌, ℕ, zero, suc, ◌+◌, ◌*◌, ◌/◌, ◌%◌, leb, eqb, length, take, drop}
use Rattle.model.specs.Base.{Answer, refused, value, ◌into◌, ◌then◌, Rule, checks, passes, after, little_endian, field}
use Rattle.model.specs.Netlist.{Netlist, path_total}
use Rattle.model.specs.Path.{Edge, rising, falling}
use Rattle.model.specs.Runs.{Run, size}
use Rattle.model.specs.Detect.{Class}
use Rattle.model.specs.Read.{marked, read_netlist, class_of, record_length}
use Rattle.model.specs.Store.{ByEdge, empty_store, tests_taken_of, max_tests, runs_by_edge, store_rules}
use Rattle.model.specs.Calls.{store_rule, store_left, test_stage, before_test}

-- bytes of a report buffer, at the least
abbrev pub report_buffer_bytes : ℕ
report_buffer_bytes = 32802

-- Lent memory
abbrev pub report_rule : List ℕ → Rule
report_rule buffer = (4, leb report_buffer_bytes (length buffer))

-- low and high of each run, 8 bytes each
abbrev pub run_bytes : List Run → List ℕ
run_bytes [] = []
run_bytes (r ∷ rs) = little_endian 8 r.low ++ little_endian 8 r.high ++ run_bytes rs

-- the 34 bytes before the runs: mark, tests, T, rising runs, falling runs, rising faults, falling faults
unfoldable pub report_head : ℕ → ℕ → ByEdge (List Run) → List ℕ
report_head testCount paths s =
    0x52 ∷ 0x50 ∷ little_endian 4 testCount
    ++ little_endian 8 paths
    ++ little_endian 2 (length s.on_rising)
    ++ little_endian 2 (length s.on_falling)
    ++ little_endian 8 (size s.on_rising)
    ++ little_endian 8 (size s.on_falling)

-- The report record 52 50
unfoldable pub report_record : ℕ → ℕ → ByEdge (List Run) → List ℕ
report_record testCount paths s = report_head testCount paths s ++ (run_bytes s.on_rising ++ run_bytes s.on_falling)

-- `n` runs of 16 bytes each
unfoldable pub runs_in : List ℕ → ℕ → List Run
runs_in bs zero = []
runs_in bs (suc n) = record { low = field 0 8 bs; high = field 8 8 bs } ∷ runs_in (drop 16 bs) n

-- The runs of an edge in a report's bytes. A report names a fault as a store holds it: its path's number lies in one of the runs of its edge
unfoldable pub named_runs : List ℕ → Edge → List Run
named_runs report rising = runs_in (drop 34 report) (field 14 2 report)
named_runs report falling = runs_in (drop (34 + 16 * field 14 2 report) report) (field 16 2 report)

-- The writer: the number of tests is the store's
unfoldable pub writer_call : List ℕ → List ℕ → List ℕ → Answer (List ℕ)
writer_call netlist ws buffer =
    checks (store_rule ws ∷ report_rule buffer ∷ [])
    then read_netlist netlist
    into λ N. checks (store_rules (path_total N) ws)
    then value (report_record (tests_taken_of ws) (path_total N) (runs_by_edge ws))

-- it returns the record's length, and bytes past the record are untouched
unfoldable pub writer_answer : List ℕ → List ℕ → List ℕ → Answer ℕ
writer_answer netlist ws buffer = writer_call netlist ws buffer into λ r. value (length r)

unfoldable pub writer_buffer : List ℕ → List ℕ → List ℕ → List ℕ
writer_buffer netlist ws buffer = after (writer_call netlist ws buffer) buffer (λ r. r ++ drop (length r) buffer)

-- `n` records of `len` bytes, end to end
abbrev pub records : ℕ → ℕ → List ℕ → List (List ℕ)
records len zero bs = []
records len (suc n) bs = take len bs ∷ records len n (drop len bs)

abbrev pub file_records : Netlist → List ℕ → List (List ℕ)
file_records N test_file = records (record_length N) (length test_file / record_length N) test_file

-- a whole number of records, and not over 4,294,967,295 of them
abbrev pub whole_records : Netlist → List ℕ → Bool
whole_records N test_file = eqb (length test_file % record_length N) 0 && leb (length test_file / record_length N) max_tests

-- the test calls with the records in order, all in one class; the store that they leave
unfoldable pub test_all : Netlist → Class → List (List ℕ) → List ℕ → Answer (List ℕ)
test_all N c [] ws = value ws
test_all N c (r ∷ rs) ws = test_stage N c r ws into λ d. test_all N c rs (store_left d)

abbrev pub same_bytes : List ℕ → List ℕ → Bool
same_bytes [] [] = true
same_bytes [] (y ∷ ys) = false
same_bytes (x ∷ xs) [] = false
same_bytes (x ∷ xs) (y ∷ ys) = eqb x y && same_bytes xs ys

-- Report: a report against the bytes that the writer gives
abbrev pub report_rules : List ℕ → List ℕ → List Rule
report_rules report written =
    (70, leb 34 (length report) && marked 0x52 0x50 report)
    ∷ (71, eqb (length report) (34 + 16 * (field 14 2 report + field 16 2 report)))
    ∷ (72, same_bytes report written)
    ∷ []

-- The audit: it empties the store unread, makes the test calls in file order, and accepts if the report's bytes are those that the writer
-- gives for the store then reached and the number of records in the file
unfoldable pub audit_call : List ℕ → ℕ → List ℕ → List ℕ → List ℕ → List ℕ → Answer (List ℕ)
audit_call netlist class test_file report ws work =
    before_test netlist class ws work
    into λ N. checks ((33, whole_records N test_file) ∷ [])
    then test_all N (class_of class) (file_records N test_file) empty_store
    into λ left. checks (report_rules report (report_record (length (file_records N test_file)) (path_total N) (runs_by_edge left)))
    then value left

unfoldable pub audit_answer : List ℕ → ℕ → List ℕ → List ℕ → List ℕ → List ℕ → Answer (Unit {0})
audit_answer netlist class test_file report ws work = passes (audit_call netlist class test_file report ws work)

-- the store afterwards: refused with a number over 2 it is all zeros, with 1 or 2 as found
abbrev pub audit_after : Answer (List ℕ) → List ℕ → List ℕ
audit_after (refused n) ws = elim (leb n 2) [ true ↦ ws | false ↦ empty_store ]
audit_after (value left) ws = left

unfoldable pub audit_store : List ℕ → ℕ → List ℕ → List ℕ → List ℕ → List ℕ → List ℕ
audit_store netlist class test_file report ws work = audit_after (audit_call netlist class test_file report ws work) ws
