-- `run_union::inner::place_shifted` meets its contract: the words are those with the runs placed so far written.
use Rattle.model.proofs.Prelude.{length-set, arith, rules}
use Rattle.run_union.proofs.PlacingSteps.{placing_start, placing_low, placing_high, placing_more, placing_end}
use Rattle.run_union.proofs.inner.place_shifted.Goals as goal

pub loop-i-init : goal.loop-i-init
loop-i-init c = search (placing_start, rules)

pub overflow_add-low : goal.overflow_add-low
overflow_add-low c = search (placing_low, rules)

pub overflow_add-high-in-loop-i : goal.overflow_add-high-in-loop-i
overflow_add-high-in-loop-i c = search (placing_high, rules)

pub bounds-words-at-in-loop-i : goal.bounds-words-at-in-loop-i
bounds-words-at-in-loop-i c = simp length-set (omega arith)

pub loop-i-preserved : goal.loop-i-preserved
loop-i-preserved c = search (placing_more, rules)

pub returns : goal.returns
returns c = search (placing_end, rules)
