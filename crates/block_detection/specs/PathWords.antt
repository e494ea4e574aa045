-- One path in a block of up to 64 tests: a word whose bit t says whether test t finds all pins of the path open and its input making the edge.
use Rattle.std.specs.Prelude.{List, ℕ, ◌≤◌, ◌<◌, length, get_or}
use Rattle.model.specs.Netlist.{Netlist, pins_of}
use Rattle.model.specs.Path.{Edge, rising, falling}
use Rattle.model.specs.Detect.{Test, in_net_set, detects_number}
use Rattle.model.specs.Read.{class_of}
use Rattle.netlist.specs.Tables.{CircuitTables}
use Rattle.netlist.specs.declared.inner.Shape.{Shape}
use Rattle.path_of_number.specs.Tasks.{Wanted}
use Rattle.block_words.specs.Words.{WordIs}
use Rattle.block_words.specs.Table.{CircuitTable, SomeTable}
use Rattle.detection.specs.Cases.{case_of}
use Rattle.block_words.specs.Block.{BlockOf, active_pin}
use Rattle.block_words.specs.NetStates.{NetsStated, StatesKept}
use Rattle.block_words.specs.Layout.{nets_size}
use Rattle.block_activity.specs.Marks.{VectorsOf}

-- the place of an edge's live word among the words of a net
abbrev pub live_at : Edge → ℕ
live_at rising = 3
live_at falling = 4

-- a pin of a gate of some netlist's table, and memory with the words of 512 nets
pub record PinThere (table words : List ℕ) (shape : Shape) (net pin : ℕ) : Type 0 where
  pub known : SomeTable table shape.inputs shape.nets
  pub low : shape.inputs ≤ net
  pub high : net < shape.nets
  pub is_pin : pin < length (pins_of known.circuit net)
  pub room : nets_size ≤ length words

-- the active word of a pin: in every netlist whose table it is, for every block of tests of the class
pub record ActiveWord (table words : List ℕ) (shape : Shape) (class : ℕ) (e : Edge) (net pin r : ℕ) : Type 0 where
  pub right : (N : Netlist) (tests : ℕ → Test) (n : ℕ) → CircuitTable N table shape.inputs shape.nets → BlockOf tests (class_of class) n
      → NetsStated N tests n shape.nets words → pin < length (pins_of N net) → WordIs r (λ t. active_pin (case_of N (tests t) e) net pin) n

-- the tables of a netlist for paths and for blocks, and a number of a partial path of a net
pub record WalkReady (file positions counts : List ℕ) (shape : Shape) (table words : List ℕ) (net number : ℕ) : Type 0 where
  pub circuit : Netlist
  pub tables : CircuitTables circuit file positions counts shape
  pub gates : CircuitTable circuit table shape.inputs shape.nets
  pub high : net < shape.nets
  pub some : 1 ≤ number
  pub small : number ≤ get_or counts net 0
  pub room : nets_size ≤ length words

-- bit t: partial path `number` of `net` has open pins only in test t, and its input makes the edge
pub record PathWord (file positions counts : List ℕ) (shape : Shape) (words : List ℕ) (class : ℕ) (e : Edge) (net number r : ℕ) : Type 0 where
  pub right : (N : Netlist) (tests : ℕ → Test) (n : ℕ) → CircuitTables N file positions counts shape → BlockOf tests (class_of class) n
      → NetsStated N tests n shape.nets words → WordIs r (λ t. in_net_set N (tests t) e net number) n

-- the same tables, and a number of one of the netlist's paths
pub record FaultReady (file positions counts : List ℕ) (shape : Shape) (table words : List ℕ) (path : ℕ) : Type 0 where
  pub wanted : Wanted file positions counts shape path
  pub gates : CircuitTable wanted.circuit table shape.inputs shape.nets
  pub room : nets_size ≤ length words

-- bit t: test t detects the fault of the path and the edge
pub record FaultWord (file positions counts : List ℕ) (shape : Shape) (words : List ℕ) (class : ℕ) (e : Edge) (path r : ℕ) : Type 0 where
  pub right : (N : Netlist) (tests : ℕ → Test) (n : ℕ) → CircuitTables N file positions counts shape → BlockOf tests (class_of class) n
      → NetsStated N tests n shape.nets words → WordIs r (λ t. detects_number N (tests t) e path) n

-- what one pass over the gates leaves: the words of all nets
pub record GatesStated (table : List ℕ) (shape : Shape) (class : ℕ) (words₀ words : List ℕ) : Type 0 where
  pub kept : StatesKept words₀ words
  pub right : (N : Netlist) (tests : ℕ → Test) (n : ℕ) → CircuitTable N table shape.inputs shape.nets → BlockOf tests (class_of class) n
      → NetsStated N tests n shape.inputs words₀ → NetsStated N tests n shape.nets words

-- bit t: test t of a block detects the fault, where the vectors are those of the block's tests
pub record BlockWord (file positions counts : List ℕ) (shape : Shape) (vectors : List ℕ) (class records : ℕ) (e : Edge) (path r : ℕ) : Type 0 where
  pub right : (N : Netlist) (tests : ℕ → Test) → CircuitTables N file positions counts shape → BlockOf tests (class_of class) records
      → VectorsOf N tests records vectors → WordIs r (λ t. detects_number N (tests t) e path) records
