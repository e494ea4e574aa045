-- The path offsets of a netlist's pins and outputs in terms of its tables.
use Rattle.std.specs.Prelude.{◌≡◌, List, ℕ, zero, suc, ◌+◌, ◌*◌, ◌^◌, ◌≤◌, ◌<◌, length, get_or}
use Rattle.model.specs.Netlist.{Netlist, output_count}
use Rattle.netlist.specs.Tables.{CircuitTables, output_at}
use Rattle.netlist.specs.declared.inner.Shape.{Shape}
use Rattle.block_words.specs.Table.{CircuitTable}
use Rattle.block_words.specs.Words.{Filled}
use Rattle.block_words.specs.Layout.{pin_counts_at}
use Rattle.block_activity.specs.Layout.{offset_table_size, output_offsets_at, output_nets_at}

-- the paths before place p, where place q has f q
abbrev pub paths_to : (ℕ → ℕ) → ℕ → ℕ
paths_to f zero = 0
paths_to f (suc p) = paths_to f p + f p

-- the number of pins of the gate that drives a net, and the paths that pin p has
abbrev pub pins_at : List ℕ → ℕ → ℕ
pins_at table net = get_or table (pin_counts_at + net) 0

abbrev pub pin_paths : List ℕ → List ℕ → ℕ → ℕ → ℕ
pin_paths counts table net p = get_or counts (get_or table (8 * net + p) 0) 0

-- a gate whose pins are at nets, with no more than 2^62 paths
pub record GateFits (counts table : List ℕ) (net : ℕ) : Type 0 where
  pub is_net : net < 512
  pub few_pins : pins_at table net ≤ 8
  pub at_nets : (p : ℕ) → p < pins_at table net → get_or table (8 * net + p) 0 < 512
  pub fits : (p : ℕ) → p ≤ pins_at table net → paths_to (pin_paths counts table net) p ≤ 2 ^ 62

-- the offsets of its pins
abbrev pub PinsPlaced : List ℕ → List ℕ → ℕ → List ℕ → List ℕ → Type 0
PinsPlaced counts table net before after = Filled (8 * net) (pins_at table net) (λ p w. w ≡ paths_to (pin_paths counts table net) p) before after

-- gates from net `low` to below net `high`, and the offsets of their pins
pub record GatesFit (counts table : List ℕ) (low high : ℕ) : Type 0 where
  pub few_nets : high ≤ 512
  pub each : (net : ℕ) → low ≤ net → net < high → GateFits counts table net

pub record GatesPlaced (counts table : List ℕ) (low high : ℕ) (offsets : List ℕ) : Type 0 where
  pub room : length offsets ≡ offset_table_size
  pub each : (net p : ℕ) → low ≤ net → net < high → p < pins_at table net → get_or offsets (8 * net + p) 0 ≡ paths_to (pin_paths counts table net) p

-- the paths that output o has
abbrev pub output_paths : List ℕ → ℕ → List ℕ → ℕ → ℕ
output_paths part inputs counts o = output_count inputs counts (output_at part o)

-- outputs at nets, with no more than 2^62 paths
pub record OutputsFit (part : List ℕ) (inputs outputs : ℕ) (counts : List ℕ) : Type 0 where
  pub few : outputs ≤ 64
  pub inside : 4 * outputs ≤ length part
  pub at_nets : (o : ℕ) → o < outputs → output_at part o < 512
  pub fits : (o : ℕ) → o ≤ outputs → paths_to (output_paths part inputs counts) o ≤ 2 ^ 62

-- the offsets of the first outputs
pub record OutputsPlaced (part : List ℕ) (inputs outputs : ℕ) (counts before after : List ℕ) : Type 0 where
  pub same_length_of : length after ≡ length before
  pub same : (i : ℕ) → i < output_offsets_at → get_or after i 0 ≡ get_or before i 0
  pub offsets : (o : ℕ) → o < outputs → get_or after (output_offsets_at + o) 0 ≡ paths_to (output_paths part inputs counts) o
  pub nets : (o : ℕ) → o < outputs → get_or after (output_nets_at + o) 0 ≡ output_at part o

-- the tables of one netlist
pub record OffsetsOf (N : Netlist) (file counts : List ℕ) (shape : Shape) (table : List ℕ) : Type 0 where
  pub positions : List ℕ
  pub tables : CircuitTables N file positions counts shape
  pub gates : CircuitTable N table shape.inputs shape.nets

pub record SomeOffsets (file counts : List ℕ) (shape : Shape) (table : List ℕ) : Type 0 where
  pub circuit : Netlist
  pub known : OffsetsOf circuit file counts shape table
