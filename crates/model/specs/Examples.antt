-- Examples as questions with their answers: `further` is one list of test calls and its audit; `requested` has small examples of document 02's
-- tickets, worked out by hand, `robust_rows` those of robust tests, `unchanged_rows` those of pairs that change nothing, `counted_rows` those of the
-- tests taken. Crate `model_examples` has the theorems over them (proofs/ExamplesHold.antt), and document 01's table of those marked *.
use Rattle.std.specs.Prelude.{Bool, true, false, List, [], ◌∷◌, ◌++◌, map, ℕ, zero, suc, ◌+◌, ◌-◌, ◌^◌, length, replicate, take, drop, set}
use Rattle.model.specs.Base.{Answer, refused, value, ◌into◌, ◌then◌, checks, numbers_from, little_endian}
use Rattle.model.specs.Netlist.{Netlist, counts, path_total}
use Rattle.model.specs.Path.{Edge, rising, falling, path_of, fault_number}
use Rattle.model.specs.Detect.{Class, nonRobust, robust, Test, evaluate, detects_number}
use Rattle.model.specs.Runs.{Run, run, working_runs}
use Rattle.model.specs.Read.{read_netlist, test_rules, test_of}
use Rattle.model.specs.Store.{ByEdge, head_words, store_words_count, max_runs, tests_word, max_tests, empty_store, first_word, store_of}
use Rattle.model.specs.Calls.{store_left, test_call, words_of, work_words_count}
use Rattle.model.specs.Report.{writer_call, report_buffer_bytes, audit_call}
use Rattle.model.specs.Demand3.{Call, start, after_calls}
use Rattle.model.specs.SinglePin.{pins_fit_before, read_netlist_by}
use Rattle.model.specs.Encode.{header_bytes, gate_bytes, output_bytes, test_bytes}

-- Questions about a netlist file
pub data Question : Type 0 where
  net_counts : Question
  paths : Question
  paths_before : Question
  path_number : ℕ → Question
  steady_nets : List ℕ → Question
  faults_of : Class → List ℕ → Question
  rising_work : Class → List ℕ → Question
  new_rising : ℕ → List ℕ → Question
  new_rising_on : List ℕ → List ℕ → Question
  listed : List Call → Question
  audited : ℕ → List ℕ → List ℕ → Question
  tested_on : List ℕ → List ℕ → Question
  report_of : List ℕ → Question

abbrev pub one_if : Bool → ℕ
one_if true = 1
one_if false = 0

unfoldable pub fault_if : Netlist → Test → Edge → ℕ → List ℕ
fault_if N t e i = elim (detects_number N t e i) [ true ↦ fault_number e i ∷ [] | false ↦ [] ]

-- the numbers of the detected faults of the paths `is`
unfoldable pub fault_list : Netlist → Test → List ℕ → List ℕ
fault_list N t [] = []
fault_list N t (i ∷ is) = fault_if N t rising i ++ fault_if N t falling i ++ fault_list N t is

-- for each net 1 where it is steady, else 0
unfoldable pub steady_of : Netlist → Test → List ℕ
steady_of N t = map (λ n. one_if n.steady) (evaluate N t.v1 t.v2)

-- working memory long enough
unfoldable pub enough_work : List ℕ
enough_work = replicate work_words_count 0

-- a store's numbers of runs and of tests taken, and the first run of each edge
unfoldable pub first_runs : List ℕ → List ℕ
first_runs ws = take (head_words + 2) ws ++ take 2 (drop (first_word falling) ws)

unfoldable pub reply : List ℕ → Question → Answer (List ℕ)
reply netlist net_counts = read_netlist netlist into λ N. value (counts N)
reply netlist paths = read_netlist netlist into λ N. value (path_total N ∷ [])
-- as `paths`, with the pin rule before ticket 1
reply netlist paths_before = read_netlist_by pins_fit_before netlist into λ N. value (path_total N ∷ [])
reply netlist (path_number k) = read_netlist netlist into λ N. value (words_of (path_of N k))
reply netlist (steady_nets rec) = read_netlist netlist into λ N. checks (test_rules N rec) then value (steady_of N (test_of N robust rec))
reply netlist (faults_of c rec) = read_netlist netlist into λ N. checks (test_rules N rec) then value (fault_list N (test_of N c rec) (numbers_from 1 (path_total N)))
reply netlist (rising_work c rec) = read_netlist netlist into λ N. checks (test_rules N rec) then value (working_runs N (test_of N c rec) rising ∷ [])
reply netlist (new_rising class rec) = test_call netlist class rec empty_store enough_work into λ r. value (r.returned.new_faults.on_rising ∷ [])
-- as `new_rising` in class 1, on a store
reply netlist (new_rising_on ws rec) = test_call netlist 1 rec ws enough_work into λ r. value (r.returned.new_faults.on_rising ∷ [])
reply netlist (listed calls) = read_netlist netlist into λ N. value (first_runs (after_calls netlist N start calls).store)
reply netlist (audited class test_file report) = audit_call netlist class test_file report empty_store enough_work into λ left. value (first_runs left)
reply netlist (tested_on ws rec) = test_call netlist 1 rec ws enough_work into λ r. value (first_runs (store_left r))
reply netlist (report_of ws) = writer_call netlist ws (replicate report_buffer_bytes 0)

-- document 01's Q: net 2 AND of 0, 1; net 3 OR of 2, 1
unfoldable pub Q : List ℕ
Q = 0x4E ∷ 0x4C ∷ 0x02 ∷ 0x00 ∷ 0x02 ∷ 0x00 ∷ 0x01 ∷ 0x00
    ∷ 0x47 ∷ 0x54 ∷ 0x03 ∷ 0x02 ∷ 0x00 ∷ 0x00 ∷ 0x01 ∷ 0x00
    ∷ 0x47 ∷ 0x54 ∷ 0x05 ∷ 0x02 ∷ 0x02 ∷ 0x00 ∷ 0x01 ∷ 0x00
    ∷ 0x4F ∷ 0x55 ∷ 0x03 ∷ 0x00 ∷ []

-- its three tests: the first detects none, the second faults 4 and 6, the third fault 5
unfoldable pub detects_none : List ℕ
detects_none = 0x54 ∷ 0x50 ∷ 0x02 ∷ 0x03 ∷ []

unfoldable pub detects_falling : List ℕ
detects_falling = 0x54 ∷ 0x50 ∷ 0x03 ∷ 0x01 ∷ []

unfoldable pub detects_rising : List ℕ
detects_rising = 0x54 ∷ 0x50 ∷ 0x00 ∷ 0x02 ∷ []

-- outputs at these nets
unfoldable pub outputs_bytes : List ℕ → List ℕ
outputs_bytes [] = []
outputs_bytes (net ∷ nets) = output_bytes net ++ outputs_bytes nets

-- `n` gates of `pins` pins, each fed by the net before; the first is fed by `net`
unfoldable pub chain : ℕ → ℕ → ℕ → ℕ → List ℕ
chain kind pins net zero = []
chain kind pins net (suc n) = gate_bytes kind (replicate pins net) ++ chain kind pins (suc net) n

-- inputs a, b; XOR(a,b,a,b,a,b,a,b), then `n` gates XOR of eight pins from the net before
unfoldable pub spread : ℕ → List ℕ
spread n = header_bytes 2 (suc n) 1 ++ gate_bytes 7 (0 ∷ 1 ∷ 0 ∷ 1 ∷ 0 ∷ 1 ∷ 0 ∷ 1 ∷ []) ++ chain 7 8 2 n ++ output_bytes (2 + n)

-- a rises, b steady
unfoldable pub a_rises : List ℕ
a_rises = test_bytes (0 ∷ []) (1 ∷ [])

-- the report of Q's three tests: T = 3; rising run 3 to 3, one fault; falling run 2 to 3, two faults
unfoldable pub report_of_three : ℕ → List ℕ
report_of_three testCount =
    0x52 ∷ 0x50 ∷ little_endian 4 testCount ++ little_endian 8 3 ++ little_endian 2 1 ++ little_endian 2 1 ++ little_endian 8 1 ++ little_endian 8 2
    ++ little_endian 8 3 ++ little_endian 8 3 ++ little_endian 8 2 ++ little_endian 8 3

-- one input and one gate, which is the output, with all its pins from the input
unfoldable pub one_gate : ℕ → ℕ → List ℕ
one_gate kind pins = header_bytes 1 1 1 ++ gate_bytes kind (replicate pins 0) ++ output_bytes 1

-- inputs a, b; a gate of one pin from a, then AND of b and that gate. Path 1 leads to b: b's rise is detected where the gate is 1
unfoldable pub beside_one_pin : ℕ → List ℕ
beside_one_pin kind = header_bytes 2 2 1 ++ gate_bytes kind (0 ∷ []) ++ gate_bytes 3 (1 ∷ 2 ∷ []) ++ output_bytes 3

-- Q with other outputs
unfoldable pub with_outputs : List ℕ → List ℕ
with_outputs outputs = header_bytes 2 2 (length outputs) ++ gate_bytes 3 (0 ∷ 1 ∷ []) ++ gate_bytes 5 (2 ∷ 1 ∷ []) ++ outputs_bytes outputs

-- one input, 61 gates AND(n, n) and a buffer of the last, so that nets 61 and 62 have 2^61 paths each; the input is an output, too
unfoldable pub halves : List ℕ
halves = header_bytes 1 62 3 ++ chain 3 2 0 61 ++ gate_bytes 1 (61 ∷ []) ++ outputs_bytes (0 ∷ 61 ∷ 62 ∷ [])

-- b rises, a steady at `a`
unfoldable pub b_rises : ℕ → List ℕ
b_rises a = test_bytes (a ∷ []) ((2 + a) ∷ [])

pub record Row : Type 0 where
  pub netlist : List ℕ
  pub question : Question
  pub answer : Answer (List ℕ)

unfoldable pub row : List ℕ → Question → Answer (List ℕ) → Row
row f q a = record { netlist = f; question = q; answer = a }

-- The three tests as a file: the true report is accepted and leaves one run of each edge; with another number of tests it is refused 72
unfoldable pub further : List Row
further =
    row Q (audited 1 (detects_none ++ detects_falling ++ detects_rising) (report_of_three 3)) (value (1 ∷ 1 ∷ 3 ∷ 3 ∷ 3 ∷ 2 ∷ 3 ∷ []))
    ∷ row Q (audited 1 (detects_none ++ detects_falling ++ detects_rising) (report_of_three 4)) (refused 72)
    ∷ []

-- one input a and a gate of two pins, both from a
unfoldable pub twice : ℕ → List ℕ
twice kind = header_bytes 1 1 1 ++ gate_bytes kind (0 ∷ 0 ∷ []) ++ output_bytes 1

unfoldable pub a_falls : List ℕ
a_falls = test_bytes (1 ∷ []) (0 ∷ [])

-- inputs a, b; net 2 NOT a, net 3 AND(a, 2), which is 0 under every vector and has a hazard when a moves, net 4 OR(3, b)
unfoldable pub hazard : List ℕ
hazard = header_bytes 2 3 1 ++ gate_bytes 2 (0 ∷ []) ++ gate_bytes 3 (0 ∷ 2 ∷ []) ++ gate_bytes 5 (3 ∷ 1 ∷ []) ++ output_bytes 4

-- a rises, b falls
unfoldable pub rise_and_fall : List ℕ
rise_and_fall = test_bytes (2 ∷ []) (1 ∷ [])

-- the carry of a full adder, source document 003's figure 10: inputs a, b, c; net 3 AND(a, b), net 4 OR(a, b), net 5 AND(4, c), net 6 OR(3, 5)
unfoldable pub carry : List ℕ
carry = header_bytes 3 4 1 ++ gate_bytes 3 (0 ∷ 1 ∷ []) ++ gate_bytes 5 (0 ∷ 1 ∷ []) ++ gate_bytes 3 (4 ∷ 2 ∷ []) ++ gate_bytes 5 (3 ∷ 5 ∷ []) ++ output_bytes 6

-- a test of it, V1 and V2 each with a in the lowest bit
unfoldable pub carry_test : ℕ → ℕ → List ℕ
carry_test v1 v2 = test_bytes (v1 ∷ []) (v2 ∷ [])

-- a call in a class, with working memory long enough
unfoldable pub call_in : ℕ → List ℕ → Call
call_in class rec = record { class = class; rec = rec; work = enough_work }

-- Robust tests. AND(a, a) is robustly open on both pins when a rises and on none when a falls, XOR(a, a) never. A hazard at a side pin that
-- has to be steady keeps a pin shut, although the side pin's values are right. The tests of the carry are the robust tests of source document
-- 003, table 1, for its paths 174, 274, 18124, 28124 and 3124, here 1 to 5
unfoldable pub robust_rows : List Row
robust_rows =
    row (twice 3) (faults_of robust a_rises) (value (1 ∷ 3 ∷ []))
    ∷ row (twice 3) (faults_of robust a_falls) (value [])
    ∷ row (twice 7) (faults_of nonRobust a_rises) (value (1 ∷ 3 ∷ []))
    ∷ row (twice 7) (faults_of robust a_rises) (value [])
    ∷ row hazard (steady_nets (test_bytes (0 ∷ []) (3 ∷ []))) (value (0 ∷ 0 ∷ 0 ∷ 0 ∷ 0 ∷ []))
    ∷ row hazard (steady_nets (test_bytes (0 ∷ []) (2 ∷ []))) (value (1 ∷ 0 ∷ 1 ∷ 1 ∷ 0 ∷ []))
    ∷ row hazard (faults_of nonRobust (test_bytes (0 ∷ []) (3 ∷ []))) (value (5 ∷ []))
    ∷ row hazard (faults_of robust (test_bytes (0 ∷ []) (3 ∷ []))) (value [])
    ∷ row hazard (faults_of nonRobust rise_and_fall) (value (3 ∷ 6 ∷ []))
    ∷ row hazard (faults_of robust rise_and_fall) (value (6 ∷ []))
    ∷ row hazard (listed (call_in 2 rise_and_fall ∷ [])) (value (0 ∷ 1 ∷ 1 ∷ 0 ∷ 0 ∷ 3 ∷ 3 ∷ []))
    ∷ row hazard (listed (call_in 2 rise_and_fall ∷ call_in 3 rise_and_fall ∷ call_in 1 rise_and_fall ∷ [])) (value (1 ∷ 1 ∷ 2 ∷ 2 ∷ 2 ∷ 3 ∷ 3 ∷ []))
    ∷ row carry (steady_nets (carry_test 0 5)) (value (0 ∷ 1 ∷ 0 ∷ 1 ∷ 0 ∷ 0 ∷ 0 ∷ []))
    ∷ row carry (faults_of robust (carry_test 7 2)) (value (2 ∷ 10 ∷ []))
    ∷ row carry (faults_of robust (carry_test 0 3)) (value (1 ∷ 3 ∷ []))
    ∷ row carry (faults_of robust (carry_test 7 1)) (value (4 ∷ 10 ∷ []))
    ∷ row carry (faults_of robust (carry_test 7 4)) (value (6 ∷ 8 ∷ []))
    ∷ row carry (faults_of robust (carry_test 0 5)) (value (5 ∷ 9 ∷ []))
    ∷ row carry (faults_of robust (carry_test 0 6)) (value (7 ∷ 9 ∷ []))
    ∷ row (spread 2) (rising_work robust a_rises) (value (1 ∷ []))
    ∷ row Q (new_rising 2 detects_rising) (value (1 ∷ []))
    ∷ row Q (new_rising 3 detects_rising) (refused 83)
    ∷ row [] (new_rising 3 detects_rising) (refused 10)
    ∷ row Q (audited 2 (detects_none ++ detects_falling ++ detects_rising) (report_of_three 3)) (value (1 ∷ 1 ∷ 3 ∷ 3 ∷ 3 ∷ 2 ∷ 3 ∷ []))
    ∷ row Q (audited 0 (0 ∷ []) []) (refused 83)
    ∷ []

-- a store after so many tests, with these runs
unfoldable pub holding : ℕ → List Run → List Run → List ℕ
holding tests rs fs = store_of tests (record { on_rising = rs; on_falling = fs })

-- what Q's three tests detect: path 3 rising, paths 2 and 3 falling
unfoldable pub runs_of_three : ByEdge (List Run)
runs_of_three = record { on_rising = run 3 3 ∷ []; on_falling = run 2 3 ∷ [] }

-- Ticket 9, on Q: the writer takes the number of tests from the store; a taken test is counted, and taken again it changes the third word alone; no
-- tests and a run are 41; the most tests are 86 after 42 and before 50, one more is 40
unfoldable pub counted_rows : List Row
counted_rows =
    row Q (report_of (store_of 3 runs_of_three)) (value (report_of_three 3))
    ∷ row Q (tested_on empty_store detects_rising) (value (1 ∷ 0 ∷ 1 ∷ 3 ∷ 3 ∷ 0 ∷ 0 ∷ []))
    ∷ row Q (tested_on (store_of 3 runs_of_three) detects_rising) (value (1 ∷ 1 ∷ 4 ∷ 3 ∷ 3 ∷ 2 ∷ 3 ∷ []))
    ∷ row Q (report_of (store_of 0 runs_of_three)) (refused 41)
    ∷ row Q (report_of (store_of max_tests runs_of_three)) (value (report_of_three 4294967295))
    ∷ row Q (tested_on (store_of max_tests runs_of_three) detects_rising) (refused 86)
    ∷ row Q (tested_on (set (store_of max_tests runs_of_three) (store_words_count - 1) 1) detects_rising) (refused 42)
    ∷ row (spread 3) (tested_on (set empty_store tests_word max_tests) a_rises) (refused 86)
    ∷ row Q (report_of (store_of (suc max_tests) runs_of_three)) (refused 40)
    ∷ []

-- Ticket 1: a gate of one pin was 14 and is taken; no pin and nine pins are 14, two pins of NOT too. NAND of one pin is NOT, and its pin is open.
-- Ticket 5: Q's inputs as outputs before its net 3 leave T, path numbers and faults as they are (after a gate's net an input net is 19, as output nets
-- ascend); two outputs of 2^61 paths and a wire are legal
unfoldable pub requested : List Row
requested =
    row (one_gate 3 1) paths_before (refused 14)
    ∷ row (one_gate 3 1) paths (value (1 ∷ []))
    ∷ row Q paths_before (value (3 ∷ []))
    ∷ row (one_gate 8 0) paths (refused 14)
    ∷ row (one_gate 8 9) paths (refused 14)
    ∷ row (one_gate 2 2) paths (refused 14)
    ∷ row (one_gate 5 1) (faults_of nonRobust (test_bytes (1 ∷ []) (0 ∷ []))) (value (2 ∷ []))
    ∷ row (beside_one_pin 4) (faults_of nonRobust (b_rises 0)) (value (1 ∷ []))
    ∷ row (beside_one_pin 4) (faults_of nonRobust (b_rises 1)) (value [])
    ∷ row (beside_one_pin 7) (faults_of nonRobust (b_rises 1)) (value (1 ∷ []))
    ∷ row (with_outputs (0 ∷ 1 ∷ 3 ∷ [])) net_counts (value (1 ∷ 1 ∷ 2 ∷ 3 ∷ []))
    ∷ row (with_outputs (0 ∷ 1 ∷ 3 ∷ [])) paths (value (3 ∷ []))
    ∷ row (with_outputs (0 ∷ 1 ∷ 3 ∷ [])) (path_number 1) (value (2 ∷ 2 ∷ 0 ∷ 0 ∷ []))
    ∷ row (with_outputs (0 ∷ 1 ∷ 3 ∷ [])) (faults_of nonRobust detects_rising) (value (5 ∷ []))
    ∷ row (with_outputs (0 ∷ 3 ∷ 1 ∷ [])) paths (refused 19)
    ∷ row halves paths (value (2 ^ 62 ∷ []))
    ∷ []

-- V1 and V2 are this byte
unfoldable pub equal_pair : ℕ → List ℕ
equal_pair v = test_bytes (v ∷ []) (v ∷ [])

-- a store that states one run too many: 40
unfoldable pub too_many_runs : List ℕ
too_many_runs = suc max_runs ∷ replicate (store_words_count - 1) 0

-- nine inputs, so that a vector has two bytes; a buffer of the last is the output
unfoldable pub two_bytes : List ℕ
two_bytes = header_bytes 9 1 1 ++ gate_bytes 1 (8 ∷ []) ++ output_bytes 9

-- Ticket 8: a pair without a changed input is 85 in both classes, after 83 and a spare bit (Q's inputs are bits 0 and 1), before the store's
-- checks; an input of the second byte is a changed one, too; a report whose list holds such a pair is refused, whatever number it states
unfoldable pub unchanged_rows : List Row
unchanged_rows =
    row Q (new_rising 1 (equal_pair 3)) (refused 85)
    ∷ row Q (new_rising 2 (equal_pair 0)) (refused 85)
    ∷ row Q (new_rising 3 (equal_pair 3)) (refused 83)
    ∷ row Q (new_rising 1 (equal_pair 7)) (refused 32)
    ∷ row Q (new_rising_on too_many_runs (equal_pair 3)) (refused 85)
    ∷ row Q (new_rising_on too_many_runs detects_rising) (refused 40)
    ∷ row two_bytes (new_rising 1 (test_bytes (0 ∷ 0 ∷ []) (0 ∷ 1 ∷ []))) (value (1 ∷ []))
    ∷ row two_bytes (new_rising 1 (test_bytes (0 ∷ 1 ∷ []) (0 ∷ 1 ∷ []))) (refused 85)
    ∷ row Q (audited 1 (detects_none ++ detects_falling ++ equal_pair 3 ++ detects_rising) (report_of_three 4)) (refused 85)
    ∷ row Q (audited 1 (detects_none ++ detects_falling ++ equal_pair 3 ++ detects_rising) (report_of_three 3)) (refused 85)
    ∷ []
