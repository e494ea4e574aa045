-- `load::write_load` meets its contract: each return is one case of the load call.
use Rattle.load.proofs.LoadCallCases.{load-cases}
use Rattle.load.proofs.write_load.Goals as goal

pub returns-then-records-lt-LOAD_BYTES : goal.returns-then-records-lt-LOAD_BYTES
returns-then-records-lt-LOAD_BYTES c = search load-cases

pub returns-then-not-fit : goal.returns-then-not-fit
returns-then-not-fit c = search load-cases

pub put_vector-after-requires : goal.put_vector-after-requires
put_vector-after-requires c = search load-cases

pub vector_size-requires : goal.vector_size-requires
vector_size-requires c = search load-cases

pub returns : goal.returns
returns c = search load-cases
