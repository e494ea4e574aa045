-- `store_words::inner::runs_of_tests` meets its contract: a test was taken, or the tests of both numbers of runs decide.
use Rattle.model.proofs.Prelude.{rules}
use Rattle.store_words.proofs.CheckSteps.{some_tests, none_first, none_both}
use Rattle.store_words.proofs.inner.runs_of_tests.Goals as goal

pub returns-then-words-gt0 : goal.returns-then-words-gt0
returns-then-words-gt0 c = search (some_tests, rules)

pub returns-then-words-eq0 : goal.returns-then-words-eq0
returns-then-words-eq0 c = search (none_both, rules)

pub returns-else-words-eq0 : goal.returns-else-words-eq0
returns-else-words-eq0 c = search (none_first, rules)
