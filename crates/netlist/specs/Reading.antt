-- What reading the header of a netlist file answers.
use Rattle.std.specs.Prelude.{ℕ, ◌+◌, ◌≤◌, ◌≡◌, List, length}
use Rattle.model.specs.Base.{Answer, value, checks, ◌then◌}
use Rattle.model.specs.Netlist.{max_nets}
use Rattle.model.specs.Read.{header_rules, inputs_in, gates_in, outputs_in}
use Rattle.netlist.specs.declared.header.Header.{Header}

-- I, G and U as the header has them
abbrev pub header_in : List ℕ → Header
header_in bs = record { inputs = inputs_in bs; gates = gates_in bs; outputs = outputs_in bs }

-- Header: its rules, then what it has
unfoldable pub header_step : List ℕ → Answer Header
header_step bs = checks (header_rules bs) then value (header_in bs)

-- I, G and U of a header that passed
pub record HeaderRead (file : List ℕ) (inputs gates outputs : ℕ) : Type 0 where
  pub passed : checks (header_rules file) ≡ value tt
  pub inputs_are : inputs ≡ inputs_in file
  pub gates_are : gates ≡ gates_in file
  pub outputs_are : outputs ≡ outputs_in file
  pub long : 8 ≤ length file
  pub few_nets : inputs + gates ≤ max_nets
