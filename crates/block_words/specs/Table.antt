-- The gates of a legal netlist as a table of numbers: what evaluating a block needs of the netlist.
use Rattle.std.specs.Prelude.{◌≡◌, List, ℕ, ◌+◌, ◌*◌, ◌≤◌, ◌<◌, T, length, get_or}
use Rattle.model.specs.Base.{value}
use Rattle.model.specs.Netlist.{Netlist, nets, gate_of, pins_of, pin_net}
use Rattle.model.specs.Read.{read_netlist, kind_of, pins_fit}
use Rattle.netlist.specs.Tables.{pin_in}
use Rattle.block_words.specs.Layout.{kinds_at, pin_counts_at}

-- a part with so many pins' nets, as a gate's record has them, each one of 512
pub record NetsIn (part : List ℕ) (pins : ℕ) : Type 0 where
  pub few : pins ≤ 8
  pub inside : 4 + 2 * pins ≤ length part
  pub is_net : (p : ℕ) → p < pins → pin_in part p < 512

-- the kind, the number of pins and the nets at the pins of the gate that drives `net`
pub record GateNumbers (N : Netlist) (net kind pins : ℕ) (pin : ℕ → ℕ) : Type 0 where
  pub low_kind : 1 ≤ kind
  pub high_kind : kind ≤ 8
  pub kind_is : kind_of kind ≡ (gate_of N net).kind
  pub fits : T (pins_fit kind pins)
  pub pin_count : pins ≡ length (pins_of N net)
  pub pin_is : (p : ℕ) → p < length (pins_of N net) → pin p ≡ pin_net N net p

-- the same at their places in the table
abbrev pub GateRow : Netlist → List ℕ → ℕ → Type 0
GateRow N table net = GateNumbers N net (get_or table (kinds_at + net) 0) (get_or table (pin_counts_at + net) 0) (λ p. get_or table (8 * net + p) 0)

-- the table of a legal netlist with so many inputs and nets
pub record CircuitTable (N : Netlist) (table : List ℕ) (inputs netCount : ℕ) : Type 0 where
  pub file : List ℕ
  pub legal : read_netlist file ≡ value N
  pub inputs_are : inputs ≡ N.inputs
  pub nets_are : netCount ≡ nets N
  pub rows : (net : ℕ) → N.inputs ≤ net → net < nets N → GateRow N table net

pub record SomeTable (table : List ℕ) (inputs netCount : ℕ) : Type 0 where
  pub circuit : Netlist
  pub is_in : CircuitTable circuit table inputs netCount
