-- `exhaust_text::lines::list_faults` meets its contract: the faults stand at the start of the array.
use Rattle.model.proofs.Prelude.{rules}
use Rattle.exhaust_text.proofs.StoreLineCases.{line-cases}
use Rattle.exhaust_text.proofs.lines.list_faults.Goals as goal

pub first_undetected-count-requires : goal.first_undetected-count-requires
first_undetected-count-requires c = (search line-cases, search line-cases, search line-cases)

pub returns-clause-prefix_len : goal.returns-clause-prefix_len
returns-clause-prefix_len c = search (line-cases, rules)

pub returns-clause-result_value : goal.returns-clause-result_value
returns-clause-result_value c = search (line-cases, rules)
