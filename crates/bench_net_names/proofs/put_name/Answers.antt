-- `bench_net_names::put_name` meets its contract: the bytes of both words.
use Rattle.model.proofs.Prelude.{rules}
use Rattle.bench_net_names.proofs.TableLaws.{name-short, name-none, name-put}
use Rattle.bench_net_names.proofs.put_name.Goals as goal

pub returns-then-out-lt-NAME_BYTES : goal.returns-then-out-lt-NAME_BYTES
returns-then-out-lt-NAME_BYTES c = search (name-short, name-none, name-put, rules)

pub returns-then-names-net : goal.returns-then-names-net
returns-then-names-net c = search (name-short, name-none, name-put, rules)

pub returns : goal.returns
returns c = search (name-short, name-none, name-put, rules)
