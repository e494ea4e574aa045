-- `bench_text::bench_to_netlist` meets its contract: the buffer first.
use Rattle.model.proofs.Prelude.{rules}
use Rattle.bench_text.proofs.ConvertCases.{buffer-short}
use Rattle.bench_text.proofs.bench_to_netlist.Goals as goal

pub returns-then-netlist-lt-NETLIST_BYTES : goal.returns-then-netlist-lt-NETLIST_BYTES
returns-then-netlist-lt-NETLIST_BYTES c = search (buffer-short, rules)
