-- What the functions that walk a path put into a buffer, where the words are a path of the netlist.
use Rattle.std.specs.Prelude.{◌≡◌, List, ◌++◌, ℕ, T, get_or, drop}
use Rattle.model.specs.Base.{value}
use Rattle.model.specs.Netlist.{Netlist}
use Rattle.model.specs.Path.{CircuitPath, valid, valid_at}
use Rattle.model.specs.Read.{read_netlist}
use Rattle.text_buffer.specs.Written.{Written}
use Rattle.path_lines.specs.PathText.{gate_lines, path_lines}

-- the words from a place on begin with these pins
pub record PinsAt (words : List ℕ) (at : ℕ) (pins : List ℕ) : Type 0 where
  pub rest : List ℕ
  pub is : drop at words ≡ pins ++ rest

pub record GatesTold (out out' : List ℕ) (at : ℕ) (file : List ℕ) (name : ℕ → List ℕ) (words : List ℕ) (net r : ℕ) : Type 0 where
  pub told : (N : Netlist) (pins : List ℕ) → read_netlist file ≡ value N → T (valid_at N net pins) → PinsAt words 2 pins
      → Written out out' at (gate_lines N name net pins) r

pub record PathTold (out out' file : List ℕ) (name : ℕ → List ℕ) (words : List ℕ) (r : ℕ) : Type 0 where
  pub told : (N : Netlist) (p : CircuitPath) → read_netlist file ≡ value N → T (valid N p) → get_or words 0 0 ≡ p.output → PinsAt words 2 p.pins
      → Written out out' 0 (path_lines N name p) r
