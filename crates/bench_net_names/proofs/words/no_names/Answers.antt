-- `bench_net_names::words::no_names` meets its contract.
use Rattle.bench_net_names.proofs.WordLaws.{no_names}
use Rattle.bench_net_names.proofs.words.no_names.Goals as goal

pub returns : goal.returns
returns c = no_names
