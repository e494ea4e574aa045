-- `bench_to_netlist::convert_text` meets its contract: what is written lies in the buffer.
use Rattle.model.proofs.Prelude.{rules}
use Rattle.bench_text.proofs.FitLaws.{written-fits, written-part}
use Rattle.bench_to_netlist.proofs.convert_text.Goals as goal

pub slice_bounds-netlist-end : goal.slice_bounds-netlist-end
slice_bounds-netlist-end c = search (written-fits, rules)

pub slice_bounds-print-end : goal.slice_bounds-print-end
slice_bounds-print-end c = search (written-part, rules)
