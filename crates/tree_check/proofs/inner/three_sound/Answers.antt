-- `tree_check::inner::three_sound` meets its contract: each test is one of the definition, in its order.
use Rattle.model.proofs.Prelude.{rules}
use Rattle.tree_check.proofs.TestCases.{three-no0, three-no1, three-no2, three-no3, three-no4, three-no5, three-last}
use Rattle.tree_check.proofs.inner.three_sound.Goals as goal

pub returns-then-words-at : goal.returns-then-words-at
returns-then-words-at c = search (three-no0, rules)

pub returns-then-words-at-2 : goal.returns-then-words-at-2
returns-then-words-at-2 c = search (three-no1, rules)

pub returns-then-words-at-3 : goal.returns-then-words-at-3
returns-then-words-at-3 c = search (three-no2, rules)

pub returns-then-words-at-4 : goal.returns-then-words-at-4
returns-then-words-at-4 c = search (three-no3, rules)

pub returns-then-not-apart : goal.returns-then-not-apart
returns-then-not-apart c = search (three-no4, rules)

pub returns-then-not-apart-2 : goal.returns-then-not-apart-2
returns-then-not-apart-2 c = search (three-no5, rules)

pub returns : goal.returns
returns c = search (three-last, rules)
