-- `tree_check::inner::two_sound` meets its contract: each test is one of the definition, in its order.
use Rattle.model.proofs.Prelude.{rules}
use Rattle.tree_check.proofs.TestCases.{two-no0, two-no1, two-no2, two-no3, two-no4, two-last}
use Rattle.tree_check.proofs.inner.two_sound.Goals as goal

pub returns-then-words-at : goal.returns-then-words-at
returns-then-words-at c = search (two-no0, rules)

pub returns-then-words-at-2 : goal.returns-then-words-at-2
returns-then-words-at-2 c = search (two-no1, rules)

pub returns-then-words-at-3 : goal.returns-then-words-at-3
returns-then-words-at-3 c = search (two-no2, rules)

pub returns-then-words-at-ne0 : goal.returns-then-words-at-ne0
returns-then-words-at-ne0 c = search (two-no3, rules)

pub returns-then-not-apart : goal.returns-then-not-apart
returns-then-not-apart c = search (two-no4, rules)

pub returns : goal.returns
returns c = search (two-last, rules)
