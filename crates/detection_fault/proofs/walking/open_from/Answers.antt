-- `detection_fault::walking::open_from` meets its contract: what is open from the net at hand on is what is open from the first net on.
use Rattle.detection_fault.proofs.WalkCases.{walk-cases}
use Rattle.detection_fault.proofs.walking.open_from.Goals as goal

pub loop-at-init : goal.loop-at-init
loop-at-init c = search walk-cases

pub gate_part-part-requires : goal.gate_part-part-requires
gate_part-part-requires c = search walk-cases

pub pick_pin-pick-requires : goal.pick_pin-pick-requires
pick_pin-pick-requires c = search walk-cases

pub bounds-masks-at : goal.bounds-masks-at
bounds-masks-at c = search walk-cases

pub wide-mask-requires : goal.wide-mask-requires
wide-mask-requires c = search walk-cases

pub bit_of-requires : goal.bit_of-requires
bit_of-requires c = search walk-cases

pub returns-then-not-bit_of : goal.returns-then-not-bit_of
returns-then-not-bit_of c = search walk-cases

pub loop-at-smaller : goal.loop-at-smaller
loop-at-smaller c = search walk-cases

pub loop-at-preserved : goal.loop-at-preserved
loop-at-preserved c = search walk-cases

pub bit_of-requires-2 : goal.bit_of-requires-2
bit_of-requires-2 c = search walk-cases

pub returns : goal.returns
returns c = search walk-cases
