-- `bench_names::inner::net_at` meets its contract: the key of the name, and its net.
use Rattle.model.proofs.Prelude.{rules}
use Rattle.bench_names.proofs.NameNetLaws.{net-of}
use Rattle.bench_names.proofs.inner.net_at.Goals as goal

pub returns : goal.returns
returns c = search (net-of, rules)
