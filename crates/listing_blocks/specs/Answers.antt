-- What the functions of this crate are handed, and what they leave.
use Rattle.std.specs.Prelude.{◌≡◌, List, ◌++◌, ℕ, ◌+◌, ◌^◌, ◌≤◌, ◌<◌, length, take, drop}
use Rattle.model.specs.Netlist.{Netlist}
use Rattle.model.specs.Detect.{Class}
use Rattle.model.specs.Read.{class_of}
use Rattle.model.specs.Calls.{work_words_count}
use Rattle.netlist.specs.declared.inner.Loaded.{Loaded}
use Rattle.netlist.specs.Tables.{CircuitTables}
use Rattle.store_coverage.specs.Stage.{MemoryReady}
use Rattle.listing_text.specs.Listing.{record_lines, listed_records, store_after_all}
use Rattle.listing_text.specs.StoreText.{out_bytes}
use Rattle.listing_blocks.specs.declared.inner.Listed.{Listed}

-- the most bytes of the lines of a block: 64 of at most 63
abbrev pub block_bytes : ℕ
block_bytes = 4032

-- the tables of a legal netlist, as they were loaded
abbrev pub TablesOf : Netlist → List ℕ → Loaded → Type 0
TablesOf N netlist t = CircuitTables N netlist t.positions t.counts t.shape

-- besides, a sound store, working memory long enough, and room for text
pub record ListReady (netlist : List ℕ) (t : Loaded) (ws work out : List ℕ) : Type 0 where
  pub circuit : Netlist
  pub tables : TablesOf circuit netlist t
  pub memory : MemoryReady circuit ws work
  pub room : out_bytes ≤ length out

-- a piece that is listed so far: the places of its other records fit 64 bits, and its lines are in the buffer
pub record Begun (from : Listed) (piece out : List ℕ) : Type 0 where
  pub within : from.used ≤ length piece
  pub places : from.place + length piece < 2 ^ 64
  pub inside : from.bytes ≤ length out

-- how far its listing goes on: by a record at least where one is left and the buffer has room for the lines of a block. Past its lines the buffer is as
-- found, and so is working memory past its first 8,192 words
pub record WentOn (from to : Listed) (piece work work' out out' : List ℕ) : Type 0 where
  pub within : to.used ≤ length piece
  pub inside : to.bytes ≤ length out'
  pub further : from.used < length piece → from.bytes + block_bytes ≤ length out → from.used < to.used
  pub places : to.place + from.used ≤ from.place + to.used
  pub past_lines : drop to.bytes out' ≡ drop to.bytes out
  pub same_length_of : length work' ≡ length work
  pub past_work : drop work_words_count work' ≡ drop work_words_count work

-- the lines in the buffer, then those of the records that are left on the store so far, give the whole; so do the store and the places
pub record ListedTo (N : Netlist) (c : Class) (from to : Listed) (piece ws ws' work' out out' : List ℕ) : Type 0 where
  pub memory : MemoryReady N ws' work'
  pub lines : take to.bytes out' ++ record_lines N c to.place (listed_records N (drop to.used piece)) ws'
      ≡ take from.bytes out ++ record_lines N c from.place (listed_records N (drop from.used piece)) ws
  pub store : store_after_all N c (listed_records N (drop to.used piece)) ws' ≡ store_after_all N c (listed_records N (drop from.used piece)) ws
  pub count : to.place + length (listed_records N (drop to.used piece)) ≡ from.place + length (listed_records N (drop from.used piece))

-- a legal netlist's tables, a sound store, working memory long enough, and a piece that is listed so far
pub record PieceReady (netlist : List ℕ) (t : Loaded) (from : Listed) (piece ws work out : List ℕ) : Type 0 where
  pub circuit : Netlist
  pub tables : TablesOf circuit netlist t
  pub memory : MemoryReady circuit ws work
  pub begun : Begun from piece out

-- what is listed of the piece from there on, of the netlist whose tables are handed over, its records judged in a class
pub record PieceLines (from r : Listed) (netlist : List ℕ) (t : Loaded) (class : ℕ) (piece ws ws' work work' out out' : List ℕ) : Type 0 where
  pub onward : WentOn from r piece work work' out out'
  pub of_circuit : (N : Netlist) → TablesOf N netlist t → ListedTo N (class_of class) from r piece ws ws' work' out out'
