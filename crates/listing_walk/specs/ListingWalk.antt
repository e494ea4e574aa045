-- A test file whose records were listed in pieces. As for the audit's walk the file is the bytes that the reads left in the space, one piece after
-- the other: there is such a file.
use Rattle.std.specs.Prelude.{◌≡◌, List, ◌++◌, ℕ, ◌+◌, ◌≤◌, length, take, drop}
use Rattle.model.specs.Base.{value}
use Rattle.model.specs.Netlist.{Netlist}
use Rattle.model.specs.Detect.{Class}
use Rattle.model.specs.Read.{read_netlist, class_of}
use Rattle.model.specs.Store.{empty_store}
use Rattle.model.specs.Calls.{work_words_count}
use Rattle.netlist.specs.declared.inner.Loaded.{Loaded}
use Rattle.listing_text.specs.Listing.{record_lines, listed_records, store_after_all, store_lines}
use Rattle.listing_blocks.specs.Answers.{ListReady}
use Rattle.testfile_reading.specs.Space.{InSpace}
use Rattle.listing_walk.specs.declared.inner.ListedFile.{ListedFile}

-- the most bytes that are read at a time
abbrev pub piece_bytes : ℕ
piece_bytes = 65536

-- the store that the records of a file leave in a class, from an empty one, each tried on what the one before left
abbrev pub listed_store : Netlist → Class → List ℕ → List ℕ
listed_store N c test_file = store_after_all N c (listed_records N test_file) empty_store

-- The walk over a file: its length, the place after its last record, the store that its records leave; all is ready for another
pub record PiecesListed (bytes place : ℕ) (netlist : List ℕ) (t : Loaded) (class : ℕ) (space ws work work' out' : List ℕ) : Type 0 where
  pub test_file : List ℕ
  pub bytes_are : bytes ≡ length test_file
  pub in_space : InSpace netlist test_file space
  pub place_is_of : (N : Netlist) → read_netlist netlist ≡ value N → place ≡ 1 + length (listed_records N test_file)
  pub store : (N : Netlist) → read_netlist netlist ≡ value N → ws ≡ listed_store N (class_of class) test_file
  pub ready : ListReady netlist t ws work' out'
  pub same_length_of : length work' ≡ length work
  pub past_work : drop work_words_count work' ≡ drop work_words_count work

-- Besides, the lines of its records are those that were written, then those that wait in the buffer
pub record LinesWaiting (bytes place waiting : ℕ) (netlist : List ℕ) (t : Loaded) (class : ℕ) (space ws work work' out' : List ℕ) : Type 0 where
  pub walk : PiecesListed bytes place netlist t class space ws work work' out'
  pub inside : waiting ≤ length out'
  pub written : List ℕ
  pub lines : (N : Netlist) → read_netlist netlist ≡ value N
      → written ++ take waiting out' ≡ record_lines N (class_of class) 1 (listed_records N walk.test_file) empty_store

-- Once all of them are written the buffer begins with the lines after them: the runs and the totals of that store
pub record FileListed (r : ListedFile) (netlist : List ℕ) (t : Loaded) (class : ℕ) (space ws work work' out' : List ℕ) : Type 0 where
  pub walk : PiecesListed r.bytes r.place netlist t class space ws work work' out'
  pub inside : r.end ≤ length out'
  pub lines : (N : Netlist) → read_netlist netlist ≡ value N → take r.end out' ≡ store_lines (listed_store N (class_of class) walk.test_file)
