-- `run_shifted::inner::add_net` meets its contract: as many runs of the net as the place lets through.
use Rattle.run_shifted.proofs.OpenNetLaws.{net-cases}
use Rattle.run_shifted.proofs.inner.add_net.Goals as goal

pub overflow_mul-to : goal.overflow_mul-to
overflow_mul-to c = search net-cases

pub overflow_add-from : goal.overflow_add-from
overflow_add-from c = search net-cases

pub append_shifted-requires : goal.append_shifted-requires
append_shifted-requires c = search net-cases

pub returns : goal.returns
returns c = search net-cases
