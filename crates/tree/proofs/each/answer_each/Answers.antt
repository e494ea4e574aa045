-- `tree::each::answer_each` meets its contract: the answers so far, and those that the numbers left are given, are the answers of all numbers.
use Rattle.model.proofs.Prelude.{rules}
use Rattle.tree.proofs.EachCases.{each_step, each-end}
use Rattle.tree.proofs.each.answer_each.Goals as goal

pub loop-i-preserved : goal.loop-i-preserved
loop-i-preserved c = (search rules, search (each_step, rules))

pub returns : goal.returns
returns c = search (each-end, rules)
