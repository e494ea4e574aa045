-- Every example of a viewer holds, computed from the definitions.
use Rattle.model.proofs.Prelude.{ℕ, ◌<◌, Bool, length, get_or, T}
use Rattle.model.specs.Base.{all_of}
use Rattle.model.specs.Netlist.{counts, output_count, path_total}
use Rattle.model.specs.Path.{path_of, path_at, split}
use Rattle.model.specs.Runs.{runs_among, runs_from, add_number, in_runs, how_many, how_many_from, separated_runs_of}
use Rattle.model.specs.Read.{read_netlist, read_gates, read_outputs_of}
use Rattle.model.specs.Store.{store_runs, store_of}
use Rattle.model.specs.Encode.{header_bytes, net_bytes, gate_bytes, output_bytes}
use Rattle.model.specs.Examples.{with_outputs, outputs_bytes, holding}
use Rattle.model.proofs.ListLaws.{all_of_at}
use Rattle.model.proofs.SameAnswers.{same}
use Rattle.viewer_places.specs.Viewer.{seen, seen_held, viewer_totals_call, viewer_runs_call, viewer_runs_store, viewer_fault_call}
use Rattle.viewer_places.specs.ViewerExamples.{Example, no_example, answered, two, three, full, spanning, asked, examples}

unfoldable right : Example → Bool
right x = same (answered x.netlist x.store x.places x.question) x.answer

all_right : T (all_of right examples)
unfolding right same examples asked answered two three full spanning holding with_outputs outputs_bytes
    header_bytes net_bytes gate_bytes output_bytes read_netlist read_gates read_outputs_of counts output_count path_total path_of path_at split
    runs_among runs_from add_number in_runs how_many how_many_from separated_runs_of store_runs store_of
    seen seen_held viewer_totals_call viewer_runs_call viewer_runs_store viewer_fault_call
all_right = tt

pub examples-hold : (i : ℕ) → i < length examples
    → T (same (answered (get_or examples i no_example).netlist (get_or examples i no_example).store (get_or examples i no_example).places
    (get_or examples i no_example).question) (get_or examples i no_example).answer)
unfolding right
examples-hold i h = all_of_at right examples no_example all_right i h
