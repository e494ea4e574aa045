-- `run_lists::inner::contains` meets its contract: the number lies in the whole list exactly where it lies in the part lo..hi that is left.
use Rattle.model.proofs.Prelude.{rules}
use Rattle.run_lists.proofs.ContainsSteps.{left-all, left-none, left-hit, left_up, left_down}
use Rattle.run_lists.proofs.inner.contains.Goals as goal

pub loop-lo-init : goal.loop-lo-init
loop-lo-init c = search (left-all, rules)

pub loop-lo-preserved-then-words-mid : goal.loop-lo-preserved-then-words-mid
loop-lo-preserved-then-words-mid c = search (left_up, rules)

pub loop-lo-preserved : goal.loop-lo-preserved
loop-lo-preserved c = search (left_down, rules)

pub returns-else-x-words : goal.returns-else-x-words
returns-else-x-words c = search (left-hit, rules)

pub returns : goal.returns
returns c = search (left-none, rules)
