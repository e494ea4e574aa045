-- `run_lists::inner::separated` meets its contract: the list is separated as what is left of it is, from the least low that may follow.
use Rattle.model.proofs.Prelude.{rules}
use Rattle.run_lists.proofs.SeparatedSteps.{separated_low, separated_empty, separated_high, separated_next, separated_end}
use Rattle.run_lists.proofs.inner.separated.Goals as goal

pub returns-then-low-least : goal.returns-then-low-least
returns-then-low-least c = search (separated_low, rules)

pub returns-then-high-low : goal.returns-then-high-low
returns-then-high-low c = search (separated_empty, rules)

pub returns-then-limit-high : goal.returns-then-limit-high
returns-then-limit-high c = search (separated_high, rules)

pub loop-i-preserved : goal.loop-i-preserved
loop-i-preserved c = search (separated_next, rules)

pub returns : goal.returns
returns c = search (separated_end, rules)
