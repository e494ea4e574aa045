-- The places of a gate's pins and of the outputs by a netlist's file, and the runs that they add from nets' runs that stand in words.
use Rattle.std.specs.Prelude.{ℕ, ◌+◌, ◌-◌, ◌*◌, ◌≤◌, ◌<◌, ◌^◌, Bool, List, leb, length, get_or}
use Rattle.model.specs.Base.{bit}
use Rattle.model.specs.Netlist.{output_count}
use Rattle.model.specs.Runs.{Run}
use Rattle.model.specs.Store.{max_runs}
use Rattle.netlist.specs.Tables.{pin_count_in, pin_in, output_at}
use Rattle.run_lists.specs.RunLists.{Sound, only_if, add_runs, shift_runs, runs_in_words}
use Rattle.detection.specs.PlaceRuns.{Places, paths_before, first_runs}

-- the runs of a net, by the starts of the nets' runs in the words
unfoldable pub runs_in : List ℕ → List ℕ → ℕ → List Run
runs_in starts ws net = runs_in_words ws (get_or starts net 0) (get_or starts (net + 1) 0 - get_or starts net 0)

-- the runs at a place with those of a net, shifted, where it is open
unfoldable pub with_net : List ℕ → List ℕ → ℕ → ℕ → Bool → ℕ → ℕ → List Run
with_net starts ws start count opens offset net = add_runs (runs_in_words ws start count) (only_if opens (shift_runs offset (runs_in starts ws net)))

-- the pins of the gate's record with which a part begins
abbrev pub gate_places : List ℕ → ℕ → List ℕ → Places
gate_places part mask counts = record { net_of = pin_in part; opens = λ p net. bit mask p; paths = λ net. get_or counts net 0 }

abbrev pub gate_runs_of : List ℕ → ℕ → List ℕ → List ℕ → List ℕ → List Run
gate_runs_of part mask counts starts ws = first_runs (gate_places part mask counts) (runs_in starts ws) (pin_count_in part)

-- the outputs, whose records make a part: one at an input net, a wire without a gate, has no path
abbrev pub output_places : List ℕ → ℕ → List ℕ → Places
output_places part inputs counts = record { net_of = output_at part; opens = λ o net. leb inputs net; paths = output_count inputs counts }

abbrev pub output_runs : List ℕ → ℕ → ℕ → List ℕ → List ℕ → List ℕ → List Run
output_runs part inputs outputs counts starts ws = first_runs (output_places part inputs counts) (runs_in starts ws) outputs

-- the runs of a net stand before run place `start`
pub record NetReady (starts ws : List ℕ) (start net : ℕ) : Type 0 where
  pub is_net : net < 512
  pub ordered : get_or starts net 0 ≤ get_or starts (net + 1) 0
  pub before : get_or starts (net + 1) 0 ≤ start
  pub sound : Sound (2 ^ 62) (runs_in starts ws net)

-- n places whose nets' runs stand before run place `start`, and room there for `cap` runs
pub record PlacesReady (P : Places) (n : ℕ) (starts ws : List ℕ) (start cap : ℕ) : Type 0 where
  pub room : 2 * (start + cap) ≤ length ws
  pub at_place : (p : ℕ) → p < n → NetReady starts ws start (P.net_of p)
  pub offsets : (p : ℕ) → p ≤ n → paths_before P p ≤ 2 ^ 62

-- a gate's record, and the runs of its pins' nets
pub record GateReady (part : List ℕ) (mask : ℕ) (counts starts ws : List ℕ) (start : ℕ) : Type 0 where
  pub few_pins : pin_count_in part ≤ 8
  pub inside : 4 + 2 * pin_count_in part ≤ length part
  pub used : start ≤ max_runs
  pub ready : PlacesReady (gate_places part mask counts) (pin_count_in part) starts ws start (max_runs - start)

-- the outputs' records, and the runs of their nets, all in the first quarter of the words
pub record OutputsReady (part : List ℕ) (inputs outputs : ℕ) (counts starts ws : List ℕ) : Type 0 where
  pub inside : 4 * outputs ≤ length part
  pub ready : PlacesReady (output_places part inputs counts) outputs starts ws max_runs max_runs
