-- `block_words::inner::robust::pin_word` meets its contract, class by class.
use Rattle.block_words.proofs.RobustCases.{class-robust, class-plain}
use Rattle.block_words.proofs.inner.robust.pin_word.Goals as goal

pub returns-then-class-eq2 : goal.returns-then-class-eq2
returns-then-class-eq2 c = class-robust c.if-class-eq2.true c.robust_word.ensures

pub returns : goal.returns
returns c = class-plain c.if-class-eq2.false c.open_word.ensures
