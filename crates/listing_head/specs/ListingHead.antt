-- What a listing begins with, as bytes. `listing_text` (listing_text/specs/Listing) is this line and what follows it: proofs/ListingHeadHolds.
-- Names: class is the number of a class; netlist is the bytes of circuit.nl, test_file those of tests.tp.
use Rattle.std.specs.Prelude.{◌≡◌, Bool, true, false, List, [], ◌∷◌, ◌++◌, ℕ}
use Rattle.model.specs.Base.{Answer, refused, value, ◌into◌, ◌then◌, checks}
use Rattle.model.specs.Netlist.{Netlist, path_total}
use Rattle.model.specs.Detect.{Class}
use Rattle.model.specs.Read.{read_netlist, class_rule}
use Rattle.model.specs.Store.{empty_store}
use Rattle.model.specs.Refusals.{refusal_number_of}
use Rattle.model.specs.declared.Refusal.{Refusal}
use Rattle.netlist.specs.Answers.{LegalLoad}
use Rattle.netlist.specs.Tables.{SomeTables}
use Rattle.netlist.specs.declared.inner.Loaded.{Loaded}
use Rattle.text_buffer.specs.Written.{Written}
use Rattle.listing_lines.specs.ListingLines.{paths_line, refused_line_of}
use Rattle.listing_text.specs.Listing.{record_lines, store_after_all, listed_records, store_lines}
use Rattle.listing_head.specs.declared.inner.Head.{Head}
use Rattle.std.specs.Prelude.{Result, Ok, Err, Option, Some, None}

-- what the places before the test file answer: the netlist's checks, then the class
abbrev pub listed_netlist : List ℕ → ℕ → Answer Netlist
listed_netlist netlist class = read_netlist netlist into λ N. checks (class_rule class ∷ []) then value N

-- A refused netlist, or class, prints `refused` and the number; another prints `paths T`
unfoldable pub head_line : Answer Netlist → List ℕ
head_line (refused number) = refused_line_of number
head_line (value N) = paths_line (path_total N)

-- the lines after it: none where it tells of a refusal, else those of the test file's records and of the store that they leave
unfoldable pub lines_after : Answer Netlist → Class → List ℕ → List ℕ
lines_after (refused number) c test_file = []
lines_after (value N) c test_file =
    record_lines N c 1 (listed_records N test_file) empty_store ++ store_lines (store_after_all N c (listed_records N test_file) empty_store)

-- whether lines follow
abbrev pub is_passed : Answer Netlist → Bool
is_passed (refused number) = false
is_passed (value N) = true

-- the tables of a netlist that passes, in a class that passes; else the first refusal of the two
pub record PassedTables (netlist : List ℕ) (class : ℕ) (t : Loaded) : Type 0 where
  pub load : LegalLoad netlist t.counts t.positions t.shape t.total
  pub is : listed_netlist netlist class ≡ value load.circuit

abbrev pub ListedTrue : Result Loaded Refusal → List ℕ → ℕ → Type 0
ListedTrue (Ok t) netlist class = PassedTables netlist class t
ListedTrue (Err w) netlist class = listed_netlist netlist class ≡ refused (refusal_number_of w)

-- there are tables where lines follow, and they are those of the netlist
abbrev pub HeadTables : Option Loaded → List ℕ → ℕ → Type 0
HeadTables (Some t) netlist class = (is_passed (listed_netlist netlist class) ≡ true) × SomeTables netlist t.positions t.counts t.shape
HeadTables None netlist class = is_passed (listed_netlist netlist class) ≡ false

-- The first line stands at the start of the buffer and nothing else is written
pub record HeadTrue (r : Head) (netlist : List ℕ) (class : ℕ) (out out' : List ℕ) : Type 0 where
  pub line : Written out out' 0 (head_line (listed_netlist netlist class)) r.end
  pub tables_are : HeadTables r.tables netlist class
