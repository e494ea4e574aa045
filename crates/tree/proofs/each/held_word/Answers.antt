-- `tree::each::held_word` meets its contract: each test is one of the definition, in its order.
use Rattle.model.proofs.Prelude.{rules}
use Rattle.tree.proofs.EachCases.{word_low, word-high, word-yes, word-no}
use Rattle.tree.proofs.each.held_word.Goals as goal

pub returns-then-number-lt1 : goal.returns-then-number-lt1
returns-then-number-lt1 c = search (word_low, rules)

pub returns-then-number-gt-MAX_COUNT : goal.returns-then-number-gt-MAX_COUNT
returns-then-number-gt-MAX_COUNT c = search (word-high, rules)

pub returns-then-v : goal.returns-then-v
returns-then-v c = search (word-yes, rules)

pub returns : goal.returns
returns c = search (word-no, rules)
