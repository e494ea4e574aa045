-- `store_words::inner::zeros_after` meets its contract: the test of the rising places decides, or that of the falling places does.
use Rattle.store_words.proofs.CheckSteps.{zeros-first, zeros-both}
use Rattle.store_words.proofs.inner.zeros_after.Goals as goal

pub returns-then-zero_words : goal.returns-then-zero_words
returns-then-zero_words c = zeros-both c.args.words.now _ c.zero_words.ensures c.if-zero_words.true _ c.zero_words-then-zero_words.ensures

pub returns-else-zero_words : goal.returns-else-zero_words
returns-else-zero_words c = zeros-first c.args.words.now _ c.zero_words.ensures c.if-zero_words.false
