-- The records of a piece in blocks of up to 64: what a block answers and leaves, and how far the piece is listed.
use Rattle.std.specs.Prelude.{◌≡◌, List, ◌++◌, ◌⊎◌, ℕ, ◌+◌, ◌≤◌, ◌<◌, length, drop}
use Rattle.model.specs.Netlist.{Netlist}
use Rattle.model.specs.Detect.{Class}
use Rattle.model.specs.Read.{class_of}
use Rattle.model.specs.declared.Refusal.{Refusal}
use Rattle.model.specs.declared.Refusal.TheVariants as why
use Rattle.store_coverage.specs.Stage.{MemoryReady}
use Rattle.audit_block.specs.FileBlocks.{BlockTables, RoomKept}
use Rattle.audit_block.specs.declared.inner.FileNumbers.{FileNumbers}
use Rattle.listing_lines.specs.ListingLines.{answer_lines}
use Rattle.listing_text.specs.Listing.{record_lines, store_after_all, listed_records}
use Rattle.listing_blocks.specs.Answers.{Begun, WentOn, ListedTo}
use Rattle.listing_blocks.specs.declared.inner.Listed.{Listed}
use Rattle.listing_blocks.specs.declared.blocks.PartAnswers.{PartAnswers}
use Rattle.std.specs.Prelude.{Result, Ok, Err}

-- what is said of the record after those of a block, from what reading it yielded
pub record NextIs (after : Result (Unit {0}) Refusal) (records used len : ℕ) (r : Result (Unit {0}) Refusal) : Type 0 where
  pub none : r ≡ Ok tt → (64 ≤ records) ⊎ (len ≤ used)
  pub some : (w : Refusal) → r ≡ Err w
      → (records < 64) × ((after ≡ Err w) ⊎ ((after ≡ Ok tt) × (used < len) × (w ≡ why.RecordLength)))

-- the first n records of a part are in its bytes before byte `used`: their lines, then those of the others on the store so far, give the whole
pub record PartListed (N : Netlist) (c : Class) (part ws ws' answers : List ℕ) (n used : ℕ) : Type 0 where
  pub lines : (place : ℕ)
      → answer_lines place answers n ++ record_lines N c (place + n) (listed_records N (drop used part)) ws' ≡ record_lines N c place (listed_records N part) ws
  pub store : store_after_all N c (listed_records N (drop used part)) ws' ≡ store_after_all N c (listed_records N part) ws
  pub count : n + length (listed_records N (drop used part)) ≡ length (listed_records N part)

pub record PartTrue (r : PartAnswers) (N : Netlist) (c : Class) (part ws ws' work' : List ℕ) : Type 0 where
  pub listed : PartListed N c part ws ws' r.answers r.lines r.used
  pub memory : MemoryReady N ws' work'

pub record PartDone (r : PartAnswers) (table offsets : List ℕ) (n : FileNumbers) (part risingLists risingLists' fallingLists fallingLists' ws ws' work work' : List ℕ) : Type 0 where
  pub few : r.lines ≤ 64
  pub within : r.used ≤ length part
  pub some : 0 < length part → 1 ≤ r.used
  pub fewer : r.lines ≤ r.used
  pub store_length : length ws' ≡ length ws
  pub kept : RoomKept risingLists risingLists' fallingLists fallingLists' work work'
  pub of_circuit : (N : Netlist) → BlockTables N table offsets n → MemoryReady N ws work → PartTrue r N (class_of n.class) part ws ws' work'

-- the tables of some netlist, a store that passes its rules, and a piece that is listed so far
pub record ListBlocksReady (table offsets : List ℕ) (n : FileNumbers) (from : Listed) (piece ws work out : List ℕ) : Type 0 where
  pub netlist : Netlist
  pub tables : BlockTables netlist table offsets n
  pub memory : MemoryReady netlist ws work
  pub begun : Begun from piece out

-- what is listed of the piece from there on
pub record BlocksListed (from r : Listed) (table offsets : List ℕ) (n : FileNumbers) (piece ws ws' work work' out out' : List ℕ) : Type 0 where
  pub onward : WentOn from r piece work work' out out'
  pub of_circuit : (N : Netlist) → BlockTables N table offsets n → MemoryReady N ws work → ListedTo N (class_of n.class) from r piece ws ws' work' out out'
