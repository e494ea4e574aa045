-- `single_intervals::nets::open_count` meets its contract: the number of runs times 0 or 1.
use Rattle.single_intervals.proofs.OpenRunLaws.{count-cases}
use Rattle.single_intervals.proofs.nets.open_count.Goals as goal

pub overflow_mul-result : goal.overflow_mul-result
overflow_mul-result c = search count-cases

pub returns : goal.returns
returns c = search count-cases
