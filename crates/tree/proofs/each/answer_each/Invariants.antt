-- `tree::each::answer_each` meets its contract: the answers so far, and those that the numbers left are given, are the answers of all numbers.
use Rattle.model.proofs.Prelude.{◌≤◌}
use Rattle.tree_words.specs.TreeLayout.{tree_runs}
use Rattle.tree.proofs.EachCases.{Answering}
use Rattle.tree.proofs.each.answer_each.Given as goal

abbrev pub invariant-loop-i : goal.invariant-loop-i
invariant-loop-i l = (l.i ≤ l.count) × Answering (tree_runs l.words) l.numbers l.initial.answers l.answers l.i
