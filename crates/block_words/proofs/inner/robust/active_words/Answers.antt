-- `block_words::inner::robust::active_words` meets its contract. The loop's invariant: the words of the pins from k on are right, and so are their sums.
use Rattle.model.proofs.Prelude.{rules}
use Rattle.block_words.proofs.ActiveCases.{active-start, active-step, active-end}
use Rattle.block_words.proofs.inner.robust.active_words.Goals as goal

pub loop-k-init : goal.loop-k-init
loop-k-init c = active-start c.requires.4 c.requires.5

pub loop-k-preserved : goal.loop-k-preserved
loop-k-preserved c = search (active-step, rules)

pub returns : goal.returns
returns c = active-end c.loop-k.invariant c.loop-k-test.false
