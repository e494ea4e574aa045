-- The calls on netlist, store and paths, each as a function of what it is handed: its answer, and the lent memory afterwards.
-- Names: netlist, rec and words are the bytes and words handed over; class is the number of a class; ws is the store, work the working memory,
-- buffer the path buffer.
use Rattle.std.specs.Prelude.{◌≡◌, Bool, ◌&&◌, ◌||◌, not, List, [], ◌∷◌, ◌++◌, ℕ, suc, ◌+◌, ◌-◌, ◌*◌, leb, ltb, eqb, length, get_or, drop, replicate}
use Rattle.model.specs.Base.{Answer, refused, value, ◌into◌, ◌then◌, Rule, checks, passes, after}
use Rattle.model.specs.Netlist.{Netlist, max_nets, counts, path_total}
use Rattle.model.specs.Path.{CircuitPath, Edge, valid, number_of, path_of, edge_of_fault, path_of_fault}
use Rattle.model.specs.Detect.{Class, Test, detects_number}
use Rattle.model.specs.Runs.{Run, runs_among, in_runs, size, how_many, working_runs}
use Rattle.model.specs.Read.{within, read_netlist, class_of, class_rule, test_rules, test_of}
use Rattle.model.specs.Store.{ByEdge, by_edge, of_edge, store_words_count, max_runs, max_tests, tests_taken_of}
use Rattle.model.specs.Store.{empty_store, store_of, store_runs, runs_by_edge, store_rules, both_edges}

-- words of working memory and of a path buffer, at the least
abbrev pub work_words_count : ℕ
work_words_count = 8192

abbrev pub path_words : ℕ
path_words = 513

-- Lent memory
abbrev pub store_rule : List ℕ → Rule
store_rule ws = (1, eqb (length ws) store_words_count)

abbrev pub work_rule : List ℕ → Rule
work_rule work = (2, leb work_words_count (length work))

abbrev pub path_rule : List ℕ → Rule
path_rule buffer = (3, leb path_words (length buffer))

-- The survey: I, G, U, one count for each of 512 nets, zero past the last net, and T
pub record Survey : Type 0 where
  pub inputs : ℕ
  pub gates : ℕ
  pub outputs : ℕ
  pub net_counts : List ℕ
  pub paths : ℕ

-- an entry for each of 512 nets, zero past the last one
unfoldable pub padded : List ℕ → List ℕ
padded entries = entries ++ replicate (max_nets - length entries) 0

unfoldable pub survey_of : Netlist → Survey
survey_of N = record {
  inputs = N.inputs;
  gates = length N.gates;
  outputs = length N.outputs;
  net_counts = padded (counts N);
  paths = path_total N;
}

unfoldable pub survey_call : List ℕ → Answer Survey
survey_call netlist = read_netlist netlist into λ N. value (survey_of N)

-- Emptying the store, of any words: refused by 1 alone
unfoldable pub empty_call : List ℕ → Answer (Unit {0})
empty_call ws = checks (store_rule ws ∷ [])

unfoldable pub emptied_store : List ℕ → List ℕ
emptied_store ws = after (empty_call ws) ws (λ u. empty_store)

-- Totals: for each edge the number of faults held
unfoldable pub totals_call : List ℕ → List ℕ → Answer (ByEdge ℕ)
totals_call netlist ws =
    checks (store_rule ws ∷ [])
    then read_netlist netlist
    into λ N. checks (store_rules (path_total N) ws)
    then value (by_edge (λ e. size (store_runs ws e)))

-- Fault in store: whether the store holds fault number `fault`
unfoldable pub fault_call : List ℕ → List ℕ → ℕ → Answer Bool
fault_call netlist ws fault =
    checks (store_rule ws ∷ [])
    then read_netlist netlist
    into λ N. checks (store_rules (path_total N) ws ++ ((60, within 1 (2 * path_total N) fault) ∷ []))
    then value (in_runs (store_runs ws (edge_of_fault fault)) (path_of_fault fault))

-- A path in memory: output place, number of pins n, then n pins
abbrev pub words_of : CircuitPath → List ℕ
words_of p = p.output ∷ length p.pins ∷ p.pins

abbrev pub path_in : List ℕ → CircuitPath
path_in words = record { output = get_or words 0 0; pins = drop 2 words }

-- the words are exactly a path
abbrev pub is_path : Netlist → List ℕ → Bool
is_path N words = leb 2 (length words) && eqb (length words) (2 + get_or words 1 0) && valid N (path_in words)

-- Path to number, the reading call
unfoldable pub path_to_number_call : List ℕ → List ℕ → Answer ℕ
path_to_number_call netlist words = read_netlist netlist into λ N. checks ((61, is_path N words) ∷ []) then value (number_of N (path_in words))

-- Number to path, the writing call
unfoldable pub number_to_path_call : List ℕ → ℕ → List ℕ → Answer CircuitPath
number_to_path_call netlist number buffer =
    checks (path_rule buffer ∷ [])
    then read_netlist netlist
    into λ N. checks ((60, within 1 (path_total N) number) ∷ [])
    then value (path_of N number)

-- it returns only that it was not refused
unfoldable pub number_to_path_answer : List ℕ → ℕ → List ℕ → Answer (Unit {0})
number_to_path_answer netlist number buffer = passes (number_to_path_call netlist number buffer)

-- the first 513 words are filled, with zeros after the path; no later word is touched
abbrev pub path_written : CircuitPath → List ℕ → List ℕ
path_written p buffer = words_of p ++ replicate (path_words - length (words_of p)) 0 ++ drop path_words buffer

unfoldable pub number_to_path_buffer : List ℕ → ℕ → List ℕ → List ℕ
number_to_path_buffer netlist number buffer = after (number_to_path_call netlist number buffer) buffer (λ p. path_written p buffer)

-- path numbers whose fault of edge `e` is in the runs `s`, or the test detects
abbrev pub held_then_of : Netlist → ByEdge (List Run) → Test → Edge → ℕ → Bool
held_then_of N s t e k = detects_number N t e k || in_runs (of_edge s e) k

-- path numbers whose fault of edge `e` the test detects and is not in the runs `s`
abbrev pub new_then_of : Netlist → ByEdge (List Run) → Test → Edge → ℕ → Bool
new_then_of N s t e k = detects_number N t e k && not (in_runs (of_edge s e) k)

-- the runs of an edge after the test
abbrev pub runs_then_of : Netlist → ByEdge (List Run) → Test → Edge → List Run
runs_then_of N s t e = runs_among (held_then_of N s t e) (path_total N)

-- Work
abbrev pub work_rules : Netlist → ByEdge (List Run) → Test → List Rule
work_rules N s t =
    (50, both_edges (λ e. leb (working_runs N t e) max_runs))
    ∷ (51, both_edges (λ e. leb (length (runs_then_of N s t e)) max_runs))
    ∷ []

-- What a test call returns: for each edge the number of faults new to the store and the number then held
pub record FaultCounts : Type 0 where
  pub new_faults : ByEdge ℕ
  pub held_faults : ByEdge ℕ

-- a taken test: what is returned, and the number of tests and the runs then in the store
pub record Tested : Type 0 where
  pub returned : FaultCounts
  pub tests : ℕ
  pub runs : ByEdge (List Run)

-- The words of the store that a taken test leaves
abbrev pub store_left : Tested → List ℕ
store_left r = store_of r.tests r.runs

-- one more test than the `n` before
unfoldable pub tested : Netlist → ℕ → ByEdge (List Run) → Test → Tested
tested N n s t = record {
  returned = record {
    new_faults = by_edge (λ e. how_many (new_then_of N s t e) (path_total N));
    held_faults = by_edge (λ e. how_many (held_then_of N s t e) (path_total N));
  };
  tests = suc n;
  runs = by_edge (runs_then_of N s t);
}

-- one more test can be counted
abbrev pub tests_rule : List ℕ → Rule
tests_rule ws = (86, ltb (tests_taken_of ws) max_tests)

-- The places Test, Store and Work for one record, judged in a class
abbrev pub stage_rules : Netlist → Class → List ℕ → List ℕ → List Rule
stage_rules N c rec ws = test_rules N rec ++ (store_rules (path_total N) ws ++ (tests_rule ws ∷ work_rules N (runs_by_edge ws) (test_of N c rec)))

unfoldable pub test_stage : Netlist → Class → List ℕ → List ℕ → Answer Tested
test_stage N c rec ws = checks (stage_rules N c rec ws) then value (tested N (tests_taken_of ws) (runs_by_edge ws) (test_of N c rec))

-- the places before Test, for a call that is handed a class, a store and working memory: the test stage is reached where they refuse nothing
abbrev pub before_test : List ℕ → ℕ → List ℕ → List ℕ → Answer Netlist
before_test netlist class ws work =
    checks (store_rule ws ∷ work_rule work ∷ []) then read_netlist netlist into λ N. checks (class_rule class ∷ []) then value N

-- The test call
unfoldable pub test_call : List ℕ → ℕ → List ℕ → List ℕ → List ℕ → Answer Tested
test_call netlist class rec ws work = before_test netlist class ws work into λ N. test_stage N (class_of class) rec ws

unfoldable pub test_answer : List ℕ → ℕ → List ℕ → List ℕ → List ℕ → Answer FaultCounts
test_answer netlist class rec ws work = test_call netlist class rec ws work into λ r. value r.returned

unfoldable pub test_store : List ℕ → ℕ → List ℕ → List ℕ → List ℕ → List ℕ
test_store netlist class rec ws work = after (test_call netlist class rec ws work) ws store_left

-- Working memory after a test call or an audit: it may hold anything in its first 8,192 words if the test stage was reached, else it is as before
pub record WorkAfter (netlist : List ℕ) (class : ℕ) (ws found left : List ℕ) : Type 0 where
  pub same_length_of : length left ≡ length found
  pub past_work : drop work_words_count left ≡ drop work_words_count found
  pub not_reached : (n : ℕ) → before_test netlist class ws found ≡ refused n → left ≡ found
