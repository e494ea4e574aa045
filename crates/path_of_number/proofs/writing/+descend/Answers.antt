-- `path_of_number::writing::descend` meets its contract: its measure is the net, and each call is at a lower one.
use Rattle.path_of_number.proofs.DescentCases.{descend-cases}
use Rattle.path_of_number.proofs.writing.+descend.Goals as goal

pub returns-then-net-shape : goal.returns-then-net-shape
returns-then-net-shape t c = search descend-cases

pub gate_part-part-requires : goal.gate_part-part-requires
gate_part-part-requires t c = search descend-cases

pub pick_pin-pick-requires : goal.pick_pin-pick-requires
pick_pin-pick-requires t c = search descend-cases

pub overflow_cast-path : goal.overflow_cast-path
overflow_cast-path t c = search descend-cases

pub bounds-path-at : goal.bounds-path-at
bounds-path-at t c = search descend-cases

pub descend-requires : goal.descend-requires
descend-requires t c = search descend-cases

pub returns : goal.returns
returns t c = search descend-cases
