-- `path_to_number::reading::number_of` meets its contract: its measure is the net, and each call is at a lower one.
use Rattle.path_to_number.proofs.NumberCases.{number-cases}
use Rattle.path_to_number.proofs.reading.+number_of.Goals as goal

pub returns-then-pins-gt0 : goal.returns-then-pins-gt0
returns-then-pins-gt0 t c = search number-cases

pub returns-then-net-shape : goal.returns-then-net-shape
returns-then-net-shape t c = search number-cases

pub returns-then-pins-lt1 : goal.returns-then-pins-lt1
returns-then-pins-lt1 t c = search number-cases

pub gate_part-part-requires : goal.gate_part-part-requires
gate_part-part-requires t c = search number-cases

pub bounds-part-3 : goal.bounds-part-3
bounds-part-3 t c = search number-cases

pub returns-then-many-pin : goal.returns-then-many-pin
returns-then-many-pin t c = search number-cases

pub pin_net-next-requires : goal.pin_net-next-requires
pin_net-next-requires t c = search number-cases

pub number_of-rest-requires : goal.number_of-rest-requires
number_of-rest-requires t c = search number-cases

pub returns-then-rest-eq0 : goal.returns-then-rest-eq0
returns-then-rest-eq0 t c = search number-cases

pub count_before-requires : goal.count_before-requires
count_before-requires t c = search number-cases

pub overflow_add-result : goal.overflow_add-result
overflow_add-result t c = search number-cases

pub returns : goal.returns
returns t c = search number-cases
