-- What a block tells of each of its records for each edge: the list of its live gates, the inputs that make the edge, the outputs at live gates' nets; and
-- where the paths of pins and outputs begin.
use Rattle.std.specs.Prelude.{◌≡◌, Bool, false, ◌&&◌, List, ◌⊎◌, ℕ, ◌+◌, ◌*◌, ◌≤◌, ◌<◌, leb, ltb, length, get_or, take, drop}
use Rattle.model.specs.Base.{bit, checks, refused, value}
use Rattle.model.specs.Netlist.{Netlist, nets, pins_of, pin_counts, output_counts, output_net}
use Rattle.model.specs.Path.{rising, falling, counts_before}
use Rattle.model.specs.Detect.{Class, Test}
use Rattle.model.specs.Read.{test_rules, test_of, record_length}
use Rattle.model.specs.Refusals.{refusal_number_of}
use Rattle.model.specs.declared.Refusal.{Refusal}
use Rattle.detection.specs.Cases.{Case, case_of}
use Rattle.block_words.specs.Block.{live_net}
use Rattle.block_words.specs.Lists.{live_entries}
use Rattle.block_words.specs.Layout.{list_size}
use Rattle.block_activity.specs.Layout.{output_offsets_at, up_outs_at, down_outs_at, up_lengths_at, down_lengths_at, out_at}
use Rattle.std.specs.Prelude.{Result, Ok, Err}

-- the path offsets of a netlist's pins and outputs: the paths of the pins before pin p of the gate that drives net n at place 8 n + p, the paths of the outputs
-- before output o, and its net
pub record OffsetTable (N : Netlist) (offsets : List ℕ) : Type 0 where
  pub pin_offset : (net p : ℕ) → N.inputs ≤ net → net < nets N → p < length (pins_of N net) → get_or offsets (8 * net + p) 0 ≡ counts_before p (pin_counts N net)
  pub out_offset : (o : ℕ) → o < length N.outputs → get_or offsets (output_offsets_at + o) 0 ≡ counts_before o (output_counts N)
  pub out_net : (o : ℕ) → o < length N.outputs → out_at offsets o ≡ output_net N o

-- output o is at a gate's net that is live
abbrev pub live_output : Case → ℕ → Bool
live_output K o = ltb o (length K.netlist.outputs) && (leb K.netlist.inputs (output_net K.netlist o) && live_net K (output_net K.netlist o))

-- of a case, which is one record and one edge: its list, a bit for each input that makes the edge, a bit for each output at a live gate's net
pub record ListedEdge (K : Case) (entries : List ℕ) (edges outs : ℕ) : Type 0 where
  pub list : entries ≡ live_entries K (length K.netlist.gates)
  pub makes_edge : (j : ℕ) → j < K.netlist.inputs → bit edges j ≡ K.makes_edge j
  pub outs_are : (o : ℕ) → o < 64 → bit outs o ≡ live_output K o

-- the list of a record: so many entries
abbrev pub entries_of : List ℕ → ℕ → ℕ → List ℕ
entries_of list len t = take len (drop (list_size * t) list)

-- the words of a block's records, each at its place t: the inputs that rise, those that fall, the live outputs of the rising and of the falling edge, the lengths
-- of the lists
pub record RecordMarks (N : Netlist) (test : Test) (risingLists fallingLists marks : List ℕ) (t : ℕ) : Type 0 where
  pub up_room_of : list_size * t + get_or marks (up_lengths_at + t) 0 ≤ length risingLists
  pub down_room : list_size * t + get_or marks (down_lengths_at + t) 0 ≤ length fallingLists
  pub rises : ListedEdge (case_of N test rising) (entries_of risingLists (get_or marks (up_lengths_at + t) 0) t) (get_or marks t 0) (get_or marks (up_outs_at + t) 0)
  pub falls : ListedEdge (case_of N test falling) (entries_of fallingLists (get_or marks (down_lengths_at + t) 0) t) (get_or marks (64 + t) 0) (get_or marks (down_outs_at + t) 0)

-- for the first n records
pub record MarksTrue (N : Netlist) (tests : ℕ → Test) (n : ℕ) (risingLists fallingLists marks : List ℕ) : Type 0 where
  pub each : (t : ℕ) → t < n → RecordMarks N (tests t) risingLists fallingLists marks t

-- bit j of word t is the value of input j in V1 of test t, of word 64 + t that in V2
pub record VectorsOf (N : Netlist) (tests : ℕ → Test) (n : ℕ) (vectors : List ℕ) : Type 0 where
  pub first : (t j : ℕ) → t < n → j < N.inputs → bit (get_or vectors t 0) j ≡ get_or (tests t).v1 j false
  pub second : (t j : ℕ) → t < n → j < N.inputs → bit (get_or vectors (64 + t) 0) j ≡ get_or (tests t).v2 j false

-- record t of some bytes, and the test that it is in a class
abbrev pub record_at : Netlist → List ℕ → ℕ → List ℕ
record_at N bytes t = take (record_length N) (drop (record_length N * t) bytes)

abbrev pub test_at : Netlist → Class → List ℕ → ℕ → Test
test_at N c bytes t = test_of N c (record_at N bytes t)

-- what reading a block of records yields: n legal records, at most 64, and what its checks answer of the one after them: Legal where 64 are read or no whole
-- record is left
pub record BlockRead (N : Netlist) (bytes vectors : List ℕ) (n : ℕ) (after : Result (Unit {0}) Refusal) : Type 0 where
  pub few : n ≤ 64
  pub whole : record_length N * n ≤ length bytes
  pub legal : (t : ℕ) → t < n → checks (test_rules N (record_at N bytes t)) ≡ value tt
  pub vectors_are : (c : Class) → VectorsOf N (test_at N c bytes) n vectors
  pub ended : after ≡ Ok tt → (n ≡ 64) ⊎ (length bytes < record_length N * (n + 1))
  pub refuses : (w : Refusal) → after ≡ Err w
      → (record_length N * (n + 1) ≤ length bytes) × (checks (test_rules N (record_at N bytes n)) ≡ refused (refusal_number_of w))
