-- What all pairs of small blocks show, computed from the definitions.
use Rattle.model.proofs.Prelude.{ℕ, ◌<◌, Bool, ◌&&◌, length, get_or, T}
use Rattle.model.specs.Base.{all_of}
use Rattle.model.specs.Netlist.{counts, output_count, path_total}
use Rattle.model.specs.Path.{path_of, path_at, split}
use Rattle.model.specs.Detect.{in_net_set, detects, all_open, has_edge, open_pin, evaluate, detects_number}
use Rattle.model.specs.Runs.{runs_among, runs_from, add_number, working_runs, in_runs, size, how_many, how_many_from, separated_runs_of}
use Rattle.model.specs.Read.{read_netlist, read_gates, read_outputs_of, test_of}
use Rattle.model.specs.Store.{store_runs, store_of}
use Rattle.model.specs.Calls.{test_stage, tested}
use Rattle.model.specs.Report.{same_bytes, test_all}
use Rattle.model.specs.Encode.{header_bytes, net_bytes, gate_bytes, output_bytes, test_bytes}
use Rattle.model.specs.Examples.{Q, twice, hazard, spread, chain, holding}
use Rattle.model.proofs.ListLaws.{all_of_at}
use Rattle.model.proofs.SameAnswers.{same}
use Rattle.exhaust_pairs.specs.AllPairs.{pairs_with, pairs_from, all_pairs}
use Rattle.exhaust_pairs.specs.Exhaust.{pairs_on, exhaust_call, exhaust_answer, exhaust_store}
use Rattle.exhaust_pairs.specs.ExhaustExamples.{Example, no_example, sevens, enough, totals_shown, store_shown, seven, examples}

unfoldable right : Example → Bool
right x = same (totals_shown x.netlist x.class) x.answer && same_bytes (store_shown x.netlist x.class) x.left

all_right : T (all_of right examples)
unfolding right same examples sevens enough totals_shown store_shown holding seven Q twice hazard spread chain
    header_bytes net_bytes gate_bytes output_bytes test_bytes read_netlist read_gates read_outputs_of counts output_count path_total path_of path_at split
    pairs_with pairs_from all_pairs pairs_on exhaust_call exhaust_answer exhaust_store test_all test_stage tested test_of
    detects_number detects all_open has_edge open_pin evaluate working_runs in_net_set
    runs_among runs_from add_number in_runs size how_many how_many_from separated_runs_of store_runs store_of
all_right = tt

pub examples-hold : (i : ℕ) → i < length examples
    → T (same (totals_shown (get_or examples i no_example).netlist (get_or examples i no_example).class) (get_or examples i no_example).answer
    && same_bytes (store_shown (get_or examples i no_example).netlist (get_or examples i no_example).class) (get_or examples i no_example).left)
unfolding right
examples-hold i h = all_of_at right examples no_example all_right i h
