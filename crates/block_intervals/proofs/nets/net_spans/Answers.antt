-- `block_intervals::nets::net_spans` meets its contract: the live nets before the next one listed have their spans.
use Rattle.block_intervals.proofs.NetSpanSteps.{spans-cases}
use Rattle.block_intervals.proofs.nets.net_spans.Goals as goal

pub loop-i-init : goal.loop-i-init
loop-i-init c = search spans-cases

pub offset_bounds-entries-i : goal.offset_bounds-entries-i
offset_bounds-entries-i c = search spans-cases

pub bounds-entries-i : goal.bounds-entries-i
bounds-entries-i c = search spans-cases

pub net_span-requires : goal.net_span-requires
net_span-requires c = search spans-cases

pub overflow_add-total : goal.overflow_add-total
overflow_add-total c = search (c.in_ok-count.was, spans-cases)

pub returns-in_err-count : goal.returns-in_err-count
returns-in_err-count c = rw c.from_residual.ensures (search (c.in_err-count.was, spans-cases))

pub loop-i-preserved : goal.loop-i-preserved
loop-i-preserved c = search (c.in_ok-count.was, spans-cases)

pub shape_of-words : goal.shape_of-words
shape_of-words c = search spans-cases

pub returns : goal.returns
returns c = search spans-cases
