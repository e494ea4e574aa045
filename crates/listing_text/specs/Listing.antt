-- What the listing program prints, as bytes: document 01, "The listing program", with the class of document 02, ticket 6.
-- Names: class is the number of a class; ws is the store, test_file the bytes of tests.tp, netlist those of circuit.nl.
use Rattle.std.specs.Prelude.{List, [], ◌∷◌, ◌++◌, ℕ, suc, ◌+◌, ◌-◌, ◌/◌, length}
use Rattle.model.specs.Base.{Answer, refused, value, ◌into◌, ◌then◌, checks}
use Rattle.model.specs.Netlist.{Netlist, path_total}
use Rattle.model.specs.Path.{rising, falling}
use Rattle.model.specs.Detect.{Class}
use Rattle.model.specs.Read.{read_netlist, class_of, class_rule, record_length}
use Rattle.model.specs.Runs.{Run, size}
use Rattle.model.specs.Store.{empty_store, store_runs}
use Rattle.model.specs.Calls.{test_stage}
use Rattle.model.specs.Report.{records}
use Rattle.store_coverage.specs.Stage.{store_after}
use Rattle.store_coverage.specs.TestCall.{returned_by}
use Rattle.listing_lines.specs.ListingLines.{numbered, pair_text, paths_line, refused_line_of, record_line}

-- the words `rising ` and `falling `
abbrev pub rising_word : List ℕ
rising_word = 0x72 ∷ 0x69 ∷ 0x73 ∷ 0x69 ∷ 0x6E ∷ 0x67 ∷ 0x20 ∷ []

abbrev pub falling_word : List ℕ
falling_word = 0x66 ∷ 0x61 ∷ 0x6C ∷ 0x6C ∷ 0x69 ∷ 0x6E ∷ 0x67 ∷ 0x20 ∷ []

-- the letters of the edges, `R ` and `F `
abbrev pub rising_letter : List ℕ
rising_letter = 0x52 ∷ 0x20 ∷ []

abbrev pub falling_letter : List ℕ
falling_letter = 0x46 ∷ 0x20 ∷ []

-- a line for each record in order, all judged in one class, the first of which has the place given, each on the store that the one before left
unfoldable pub record_lines : Netlist → Class → ℕ → List (List ℕ) → List ℕ → List ℕ
record_lines N c place [] ws = []
record_lines N c place (r ∷ rs) ws = record_line place (returned_by (test_stage N c r ws)) ++ record_lines N c (suc place) rs (store_after (test_stage N c r ws) ws)

-- the store that the last of them leaves; a refused record leaves the store as it was
unfoldable pub store_after_all : Netlist → Class → List (List ℕ) → List ℕ → List ℕ
store_after_all N c [] ws = ws
store_after_all N c (r ∷ rs) ws = store_after_all N c rs (store_after (test_stage N c r ws) ws)

-- the records of `length` bytes in a file, cut from its first byte on: as many as begin in it, so that the last may be short
abbrev pub listed_count : ℕ → List ℕ → ℕ
listed_count bytes test_file = (length test_file + (bytes - 1)) / bytes

unfoldable pub listed_records : Netlist → List ℕ → List (List ℕ)
listed_records N test_file = records (record_length N) (listed_count (record_length N) test_file) test_file

-- a line for each run: the letter of its edge, low and high
unfoldable pub run_lines : List ℕ → List Run → List ℕ
run_lines letter [] = []
run_lines letter (r ∷ rs) = letter ++ pair_text r.low r.high ++ run_lines letter rs

-- the totals: the number of rising faults and of falling faults in the store
unfoldable pub totals_lines : List ℕ → List ℕ
totals_lines ws = numbered rising_word (size (store_runs ws rising)) ++ numbered falling_word (size (store_runs ws falling))

-- the lines after those of the records
unfoldable pub store_lines : List ℕ → List ℕ
store_lines ws = run_lines rising_letter (store_runs ws rising) ++ run_lines falling_letter (store_runs ws falling) ++ totals_lines ws

-- the listing of what the places before the test file answer
unfoldable pub listing_of : Answer Netlist → Class → List ℕ → List ℕ
listing_of (refused number) c test_file = refused_line_of number
listing_of (value N) c test_file =
    paths_line (path_total N)
    ++ record_lines N c 1 (listed_records N test_file) empty_store
    ++ store_lines (store_after_all N c (listed_records N test_file) empty_store)

-- What the listing program prints
unfoldable pub listing_text : List ℕ → ℕ → List ℕ → List ℕ
listing_text netlist class test_file = listing_of (read_netlist netlist into λ N. checks (class_rule class ∷ []) then value N) (class_of class) test_file
