-- A case: a netlist, any open pins, and any inputs that make an edge. The sets of its nets, the detected path numbers and their runs.
-- Those of a test's case are the model's (`proofs/TestCaseLaws`).
use Rattle.std.specs.Prelude.{ℕ, Bool, List, map, length, get_or}
use Rattle.model.specs.Base.{sum_of, numbers_from}
use Rattle.model.specs.Netlist.{Netlist, nets, counts, path_total, output_net}
use Rattle.model.specs.Path.{Edge, path_at, path_of}
use Rattle.model.specs.Detect.{Test, open_pin, has_edge, all_open}
use Rattle.model.specs.Runs.{Run, runs_among}

-- `is_open` asks of pin p of the gate that drives a net, `makes_edge` of an input
pub record Case : Type 0 where
  pub netlist : Netlist
  pub is_open : ℕ → ℕ → Bool
  pub makes_edge : ℕ → Bool

-- the open pins under a test, and the inputs that make an edge in it
abbrev pub case_of : Netlist → Test → Edge → Case
case_of N t e = record { netlist = N; is_open = open_pin N t; makes_edge = has_edge t e }

-- a net's set: number `k` is that of a partial path through open pins from an input that makes the edge
unfoldable pub in_set : Case → ℕ → ℕ → Bool
in_set K net k = all_open K.netlist K.is_open K.makes_edge net (path_at K.netlist net net k)

-- path number `k` is detected: every pin of the path is open, and its input makes the edge
unfoldable pub detects_path : Case → ℕ → Bool
detects_path K k = all_open K.netlist K.is_open K.makes_edge (output_net K.netlist (path_of K.netlist k).output) (path_of K.netlist k).pins

-- the runs of a net's set
unfoldable pub set_runs_of : Case → ℕ → List Run
set_runs_of K net = runs_among (in_set K net) (get_or (counts K.netlist) net 0)

-- the runs of the detected path numbers
unfoldable pub detected : Case → List Run
detected K = runs_among (detects_path K) (path_total K.netlist)

-- the working runs: the sum over all nets of the runs of their sets
unfoldable pub working : Case → ℕ
working K = sum_of (map (λ net. length (set_runs_of K net)) (numbers_from 0 (nets K.netlist)))
