-- `block_detection::inner::path_word` meets its contract: the word so far, with what is open from the net at hand on, is what is open from the first net on.
use Rattle.block_detection.proofs.WordWalkCases.{walk-cases}
use Rattle.block_detection.proofs.inner.path_word.Goals as goal

pub loop-at-init : goal.loop-at-init
loop-at-init c = search walk-cases

pub gate_part-part-requires : goal.gate_part-part-requires
gate_part-part-requires c = search walk-cases

pub pick_pin-pick-requires : goal.pick_pin-pick-requires
pick_pin-pick-requires c = search walk-cases

pub active_word-active-requires : goal.active_word-active-requires
active_word-active-requires c = search walk-cases

pub loop-at-smaller : goal.loop-at-smaller
loop-at-smaller c = search walk-cases

pub loop-at-preserved : goal.loop-at-preserved
loop-at-preserved c = search walk-cases

pub live_word-live-requires : goal.live_word-live-requires
live_word-live-requires c = search walk-cases

pub returns : goal.returns
returns c = search walk-cases
