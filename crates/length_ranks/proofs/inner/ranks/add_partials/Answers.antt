-- `length_ranks::inner::ranks::add_partials` meets its contract: what is added so far, with what the net at hand still gives, is the whole.
use Rattle.length_ranks.proofs.DescentSums.{down-cases, down-long, down-end}
use Rattle.length_ranks.proofs.inner.ranks.add_partials.Goals as goal

pub loop-at-init : goal.loop-at-init
loop-at-init c = search down-cases

pub gate_part-part-requires : goal.gate_part-part-requires
gate_part-part-requires c = search down-cases

pub pick_pin-pick-requires : goal.pick_pin-pick-requires
pick_pin-pick-requires c = search down-cases

pub overflow_add-gates : goal.overflow_add-gates
overflow_add-gates c = search down-cases

pub add_pins-requires : goal.add_pins-requires
add_pins-requires c = search down-cases

pub loop-at-smaller : goal.loop-at-smaller
loop-at-smaller c = search down-cases

pub loop-at-preserved : goal.loop-at-preserved
loop-at-preserved c = search down-cases

pub returns-then-gates-ge-LENGTHS : goal.returns-then-gates-ge-LENGTHS
returns-then-gates-ge-LENGTHS c = down-long c.loop-at.invariant c.loop-at-test.false c.if-gates-ge-LENGTHS.true

pub offset_bounds-sums-gates : goal.offset_bounds-sums-gates
offset_bounds-sums-gates c = search down-cases

pub bounds-sums-gates : goal.bounds-sums-gates
bounds-sums-gates c = search down-cases

pub overflow_add-sums : goal.overflow_add-sums
overflow_add-sums c = search down-cases

pub offset_bounds-sums-gates-2 : goal.offset_bounds-sums-gates-2
offset_bounds-sums-gates-2 c = search down-cases

pub bounds-sums-gates-2 : goal.bounds-sums-gates-2
bounds-sums-gates-2 c = search down-cases

pub returns : goal.returns
returns c = down-end c.loop-at.invariant c.loop-at-test.false c.if-gates-ge-LENGTHS.false
