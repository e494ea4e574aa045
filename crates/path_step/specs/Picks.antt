-- The pin of a gate and the output that a number of a path goes through, out of the parts of the file that begin with their records.
use Rattle.std.specs.Prelude.{List, map, ℕ, ◌+◌, ◌*◌, ◌<◌, ◌≤◌, length, drop}
use Rattle.model.specs.Netlist.{max_nets, at_nets, output_count}
use Rattle.model.specs.Path.{split}
use Rattle.model.specs.Read.{net_fields}
use Rattle.netlist.specs.Places.{outputs_from}
use Rattle.netlist.specs.Tables.{pin_count_in, pin_in, output_at}
use Rattle.path_step.specs.declared.inner.pins.Pick.{Pick}

-- the part begins with a gate's record: at least one pin, all in the part, each at one of 512 nets
pub record PinsIn (part : List ℕ) : Type 0 where
  pub some : 0 < pin_count_in part
  pub inside : 4 + 2 * pin_count_in part ≤ length part
  pub low : (p : ℕ) → p < pin_count_in part → pin_in part p < max_nets

-- the counts at its pins
unfoldable pub pin_counts_in : List ℕ → List ℕ → List ℕ
pin_counts_in part cs = at_nets cs 0 (net_fields (pin_count_in part) (drop 4 part))

-- the pin that number `i` goes through, its net, and the number there
unfoldable pub pick_pin_of : List ℕ → List ℕ → ℕ → Pick
pick_pin_of part cs i =
    let chosen = split (pin_counts_in part cs) i in
    record { pin = chosen.0; net = pin_in part chosen.0; number = chosen.1 }

-- the part begins with `n` outputs' records, each at one of 512 nets
pub record RecordsOfOutputs (part : List ℕ) (n : ℕ) : Type 0 where
  pub inside : 4 * n ≤ length part
  pub low : (o : ℕ) → o < n → output_at part o < max_nets

-- how many paths end at each of them
unfoldable pub output_counts_in : List ℕ → ℕ → ℕ → List ℕ → List ℕ
output_counts_in part n inputs cs = map (output_count inputs cs) (outputs_from n part)

-- the output that path `i` ends at, its net, and the number there
unfoldable pub pick_output_of : List ℕ → ℕ → ℕ → List ℕ → ℕ → Pick
pick_output_of part n inputs cs i =
    let chosen = split (output_counts_in part n inputs cs) i in
    record { pin = chosen.0; net = output_at part chosen.0; number = chosen.1 }
