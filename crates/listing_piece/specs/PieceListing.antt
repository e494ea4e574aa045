-- One piece of a test file whose records are listed after lines that wait in the buffer.
use Rattle.std.specs.Prelude.{◌≡◌, List, ◌++◌, ◌⊎◌, ℕ, ◌+◌, ◌*◌, ◌^◌, ◌≤◌, ◌<◌, length, take, drop}
use Rattle.model.specs.Base.{value}
use Rattle.model.specs.Netlist.{Netlist}
use Rattle.model.specs.Detect.{Class}
use Rattle.model.specs.Read.{read_netlist, class_of}
use Rattle.model.specs.Calls.{work_words_count}
use Rattle.netlist.specs.declared.inner.Loaded.{Loaded}
use Rattle.listing_text.specs.Listing.{record_lines, listed_records, store_after_all}
use Rattle.listing_blocks.specs.Answers.{block_bytes, ListReady}
use Rattle.listing_blocks.specs.declared.inner.Listed.{Listed}

-- a piece that is to be listed, the first of its records with the place given: the lines that wait leave room for those of a block, and the places fit 64 bits
pub record ReadReady (first waiting : ℕ) (netlist : List ℕ) (t : Loaded) (piece ws work out : List ℕ) : Type 0 where
  pub ready : ListReady netlist t ws work out
  pub room : waiting + block_bytes ≤ length out
  pub places : first + 2 * length piece < 2 ^ 64

-- a piece whose records were listed: what was written, then what waits, are the lines that waited and those of its records
pub record ReadOf (N : Netlist) (c : Class) (first waiting place bytes : ℕ) (written piece ws ws' out out' : List ℕ) : Type 0 where
  pub text : written ++ take bytes out' ≡ take waiting out ++ record_lines N c first (listed_records N piece) ws
  pub store : ws' ≡ store_after_all N c (listed_records N piece) ws
  pub places : place ≡ first + length (listed_records N piece)

pub record ReadListed (first waiting place bytes : ℕ) (netlist : List ℕ) (t : Loaded) (class : ℕ) (piece ws ws' work work' out out' : List ℕ) : Type 0 where
  pub written : List ℕ
  pub of_circuit : (N : Netlist) → read_netlist netlist ≡ value N → ReadOf N (class_of class) first waiting place bytes written piece ws ws' out out'
  pub ready : ListReady netlist t ws' work' out'
  pub room : bytes + block_bytes ≤ length out'
  pub few : place ≤ first + length piece
  pub same_length_of : length work' ≡ length work
  pub past_work : drop work_words_count work' ≡ drop work_words_count work

-- lines that wait still, or were written for they left no room for those of another block
pub record WrittenFull (at r : Listed) (out : List ℕ) : Type 0 where
  pub is : (r ≡ at) ⊎ (r ≡ record { place = at.place; used = at.used; bytes = 0 })
  pub room : r.bytes + block_bytes ≤ length out
