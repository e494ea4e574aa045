-- `bench_names::inner::net_of_key` meets its contract: among the inputs, else among the gates.
use Rattle.model.proofs.Prelude.{rules}
use Rattle.bench_names.proofs.NameNetLaws.{pair-in, pair-out, net-fits}
use Rattle.bench_names.proofs.inner.net_of_key.Goals as goal

pub returns-then-place-input_count : goal.returns-then-place-input_count
returns-then-place-input_count c = search (pair-in, rules)

pub overflow_add-result : goal.overflow_add-result
overflow_add-result c = search (net-fits, rules)

pub returns : goal.returns
returns c = search (pair-out, rules)
