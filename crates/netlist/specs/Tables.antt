-- What a function is handed of a legal netlist: its file, where the records of its gates begin, its counts and its numbers; and the parts of the file
-- that begin with a gate's or an output's record.
use Rattle.std.specs.Prelude.{◌≡◌, List, ℕ, ◌+◌, ◌*◌, ◌≤◌, ◌<◌, T, length, get_or, drop}
use Rattle.model.specs.Base.{value, field}
use Rattle.model.specs.Netlist.{Netlist, gate_of, pins_of, pin_net}
use Rattle.model.specs.Netlist as model
use Rattle.model.specs.Read.{read_netlist, kind_of, pins_fit, net_fields}
use Rattle.model.specs.Calls.{padded}
use Rattle.netlist.specs.Places as places
use Rattle.netlist.specs.declared.inner.Shape.{Shape}

-- The tables of a legal netlist: the positions of its gates' records, its counts in an array of 512, its numbers of inputs, nets and outputs
pub record CircuitTables (N : Netlist) (file positions counts : List ℕ) (shape : Shape) : Type 0 where
  pub legal : read_netlist file ≡ value N
  pub positions_are : positions ≡ places.positions file N
  pub counts_are : counts ≡ padded (model.counts N)
  pub inputs_are : shape.inputs ≡ N.inputs
  pub nets_are : shape.nets ≡ model.nets N
  pub outputs_are : shape.outputs ≡ length N.outputs

-- the tables of some netlist
pub record SomeTables (file positions counts : List ℕ) (shape : Shape) : Type 0 where
  pub circuit : Netlist
  pub tables : CircuitTables circuit file positions counts shape

-- the same where the counts are not handed over
pub record SomeCircuit (file positions : List ℕ) (shape : Shape) : Type 0 where
  pub counts : List ℕ
  pub known : SomeTables file positions counts shape

-- of the gate's record (47 54) with which a part begins: its kind, the number of its pins, and the net at pin p
abbrev pub kind_in : List ℕ → ℕ
kind_in part = get_or part 2 0

abbrev pub pin_count_in : List ℕ → ℕ
pin_count_in part = get_or part 3 0

abbrev pub pin_in : List ℕ → ℕ → ℕ
pin_in part p = field (4 + 2 * p) 2 part

-- the part of a file that begins at the record of the gate that drives `net`
abbrev pub gate_part_of : List ℕ → List ℕ → ℕ → List ℕ
gate_part_of file positions net = drop (get_or positions net 0) file

-- A part that begins with the record of the gate that drives `net`
pub record GatePart (part : List ℕ) (N : Netlist) (net : ℕ) : Type 0 where
  pub low_kind : 1 ≤ kind_in part
  pub high_kind : kind_in part ≤ 8
  pub kind_is : kind_of (kind_in part) ≡ (gate_of N net).kind
  pub fits : T (pins_fit (kind_in part) (pin_count_in part))
  pub some_pins : 1 ≤ pin_count_in part
  pub few_pins : pin_count_in part ≤ 8
  pub pin_count : pin_count_in part ≡ length (pins_of N net)
  pub inside : 4 + 2 * pin_count_in part ≤ length part
  pub pins_are : net_fields (pin_count_in part) (drop 4 part) ≡ pins_of N net
  pub pin_is : (p : ℕ) → p < pin_count_in part → pin_in part p ≡ pin_net N net p
  pub lower : (p : ℕ) → p < pin_count_in part → pin_net N net p < net

-- the net of the output's record (4F 55) with which a part begins
abbrev pub output_in : List ℕ → ℕ
output_in part = field 2 2 part

-- the net of output o, where the outputs' records make a part
abbrev pub output_at : List ℕ → ℕ → ℕ
output_at part o = output_in (drop (4 * o) part)
