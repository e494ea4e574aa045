-- `store_words::inner::few_runs` meets its contract: the test of the rising runs decides, or that of the falling runs does.
use Rattle.model.proofs.Prelude.{rules}
use Rattle.store_words.proofs.CheckSteps.{few-first, few-both}
use Rattle.store_words.proofs.inner.few_runs.Goals as goal

pub returns-then-rising-le-MAX_RUNS : goal.returns-then-rising-le-MAX_RUNS
returns-then-rising-le-MAX_RUNS c = search (few-both, rules)

pub returns-else-rising-le-MAX_RUNS : goal.returns-else-rising-le-MAX_RUNS
returns-else-rising-le-MAX_RUNS c = search (few-first, rules)
