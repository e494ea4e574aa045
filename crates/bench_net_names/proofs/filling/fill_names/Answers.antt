-- `bench_net_names::filling::fill_names` meets its contract: a refused line, or what is known at the end.
use Rattle.bench_net_names.proofs.FillCases.{fill-cases}
use Rattle.bench_net_names.proofs.filling.fill_names.Goals as goal

pub fill_judged-requires : goal.fill_judged-requires
fill_judged-requires c = search fill-cases

pub returns-in-Err : goal.returns-in-Err
returns-in-Err c = search fill-cases
