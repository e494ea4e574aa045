-- `bench_text::finish` meets its contract: refused at the end, or written.
use Rattle.model.proofs.Prelude.{rules}
use Rattle.bench_text.proofs.ConvertCases.{end_refused, end-told}
use Rattle.bench_text.proofs.finish.Goals as goal

pub put_netlist-length-requires : goal.put_netlist-length-requires
put_netlist-length-requires c = search (end-told, rules)

pub returns-in-Err : goal.returns-in-Err
returns-in-Err c = search (end_refused, rules)
