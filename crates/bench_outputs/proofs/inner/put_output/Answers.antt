-- `bench_outputs::inner::put_output` meets its contract: whether it is one.
use Rattle.model.proofs.Prelude.{rules}
use Rattle.bench_outputs.proofs.OutputFileLaws.{output-yes, output-no, output-first, output-second}
use Rattle.bench_outputs.proofs.inner.put_output.Goals as goal

pub put-requires : goal.put-requires
put-requires c = search (output-first, rules)

pub put-requires-then-listed : goal.put-requires-then-listed
put-requires-then-listed c = search (output-second, rules)

pub returns-then-listed : goal.returns-then-listed
returns-then-listed c = search (output-yes, rules)

pub returns : goal.returns
returns c = search (output-no, rules)
