-- Every row of document 01's table of starred examples holds, computed from the definitions.
use Rattle.model.proofs.Prelude.{ℕ, ◌<◌, ◌≡◌, refl, length, get_or, T}
use Rattle.model.specs.Base.{all_of}
use Rattle.model.specs.Netlist.{counts, output_count, path_total}
use Rattle.model.specs.Path.{path_of, path_at, split, fault_number}
use Rattle.model.specs.Detect.{in_net_set, detects, all_open, has_edge, open_pin, evaluate, detects_number}
use Rattle.model.specs.Runs.{runs_among, runs_from, add_number, working_runs, in_runs, separated_runs_of}
use Rattle.model.specs.Read.{read_netlist, read_gates, read_outputs_of, test_of}
use Rattle.model.specs.Store.{store_runs}
use Rattle.model.specs.Calls.{test_call, test_stage, tested}
use Rattle.model.specs.Encode.{header_bytes, net_bytes, gate_bytes, output_bytes, test_bytes}
use Rattle.model.specs.Examples.{row, reply, fault_if, fault_list, enough_work, Q, detects_none, detects_falling, detects_rising, chain, spread, a_rises}
use Rattle.model.proofs.SameAnswers.{same}
use Rattle.model_examples.proofs.ExamplesHold.{right, no_row, rows-hold}
use Rattle.model_examples.specs.Starred.{doubling, starred}

all_right : T (all_of right starred)
unfolding starred doubling right same row a_rises spread Q detects_none detects_falling detects_rising enough_work
    output_bytes header_bytes chain gate_bytes net_bytes test_bytes reply fault_list fault_if
    read_netlist read_gates read_outputs_of counts output_count path_total path_of path_at split detects_number detects all_open has_edge open_pin evaluate fault_number
    test_of working_runs in_net_set runs_among runs_from add_number test_call test_stage tested store_runs separated_runs_of in_runs
all_right = tt

pub starred-hold : (i : ℕ) → i < length starred → reply (get_or starred i no_row).netlist (get_or starred i no_row).question ≡ (get_or starred i no_row).answer
starred-hold = rows-hold starred all_right

pub thirteen_rows : 13 ≡ length starred
unfolding starred
thirteen_rows = refl
