-- `store_words::inner::separated_runs` meets its contract: the test of the rising runs decides, or that of the falling runs does.
use Rattle.store_words.proofs.CheckSteps.{separated_first, separated_both}
use Rattle.store_words.proofs.inner.separated_runs.Goals as goal

pub returns-then-separated : goal.returns-then-separated
returns-then-separated c = separated_both _ _ _ c.separated.ensures c.if-separated.true _ c.separated-then-separated.ensures

pub returns-else-separated : goal.returns-else-separated
returns-else-separated c = separated_first _ _ _ c.separated.ensures c.if-separated.false
