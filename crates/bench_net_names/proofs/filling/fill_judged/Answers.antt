-- `bench_net_names::filling::fill_judged` meets its contract: refused at the end, or the names are copied.
use Rattle.bench_net_names.proofs.FillCases.{fill-cases}
use Rattle.bench_net_names.proofs.filling.fill_judged.Goals as goal

pub overflow_mul-input_words : goal.overflow_mul-input_words
overflow_mul-input_words c = search fill-cases

pub overflow_mul-gate_words : goal.overflow_mul-gate_words
overflow_mul-gate_words c = search fill-cases

pub copy_words-requires : goal.copy_words-requires
copy_words-requires c = search fill-cases

pub copy_words-requires-in-Ok : goal.copy_words-requires-in-Ok
copy_words-requires-in-Ok c = search fill-cases

pub returns-in-Err : goal.returns-in-Err
returns-in-Err c = search fill-cases

pub returns-in-Ok : goal.returns-in-Ok
returns-in-Ok c = search fill-cases
