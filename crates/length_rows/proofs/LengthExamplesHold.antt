-- Every example of coverage by length holds, computed from the definitions.
use Rattle.model.proofs.Prelude.{ℕ, ◌<◌, Bool, length, get_or, T}
use Rattle.model.specs.Base.{all_of}
use Rattle.model.specs.Netlist.{counts, output_count, path_total}
use Rattle.model.specs.Path.{path_of, path_at, split}
use Rattle.model.specs.Runs.{in_runs, how_many, how_many_from, separated_runs_of}
use Rattle.model.specs.Read.{read_netlist, read_gates, read_outputs_of}
use Rattle.model.specs.Store.{store_runs, store_of}
use Rattle.model.specs.Encode.{header_bytes, net_bytes, gate_bytes, output_bytes}
use Rattle.model.specs.Examples.{chain, with_outputs, outputs_bytes, holding}
use Rattle.model.proofs.ListLaws.{all_of_at}
use Rattle.model.proofs.SameAnswers.{same}
use Rattle.length_rows.specs.Lengths.{row, length_of, paths_up_to, held_up_to, rows_of, lengths_call}
use Rattle.length_rows.specs.LengthExamples.{Example, no_example, rows_answered, up_to, inverters, one63, examples}

unfoldable right : Example → Bool
right x = same (rows_answered x.netlist x.store) x.answer

all_right : T (all_of right examples)
unfolding right same examples rows_answered up_to holding inverters one63 chain with_outputs outputs_bytes
    header_bytes net_bytes gate_bytes output_bytes read_netlist read_gates read_outputs_of counts output_count path_total path_of path_at split
    in_runs how_many how_many_from separated_runs_of store_runs store_of row length_of paths_up_to held_up_to rows_of lengths_call
all_right = tt

pub examples-hold : (i : ℕ) → i < length examples
    → T (same (rows_answered (get_or examples i no_example).netlist (get_or examples i no_example).store) (get_or examples i no_example).answer)
unfolding right
examples-hold i h = all_of_at right examples no_example all_right i h
