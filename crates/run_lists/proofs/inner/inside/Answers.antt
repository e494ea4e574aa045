-- `run_lists::inner::inside` meets its contract: the runs that the walk has passed lie inside.
use Rattle.model.proofs.Prelude.{rules}
use Rattle.run_lists.proofs.InsideSteps.{walked_none, walked_start, walked_more, walked_end, no_answer}
use Rattle.run_lists.proofs.inner.inside.Goals as goal

pub returns-then-b_to-b_from : goal.returns-then-b_to-b_from
returns-then-b_to-b_from c = search (walked_none, rules)

pub loop-j-init : goal.loop-j-init
loop-j-init c = search (walked_start, rules)

pub returns-then-a_to-i : goal.returns-then-a_to-i
returns-then-a_to-i c = search (no_answer, rules)

pub returns-then-b-j : goal.returns-then-b-j
returns-then-b-j c = search (no_answer, rules)

pub returns-then-a-i : goal.returns-then-a-i
returns-then-a-i c = search (no_answer, rules)

pub loop-j-preserved : goal.loop-j-preserved
loop-j-preserved c = search (walked_more, rules)

pub returns : goal.returns
returns c = search (walked_end, rules)
