-- `block_words::inner::lists::push` meets its contract. The loop's invariant: the records of the word that are not left have their entry.
use Rattle.block_words.specs.Lists.{entry_of}
use Rattle.block_words.proofs.PushCases.{Pushing}
use Rattle.block_words.proofs.inner.lists.push.Given as goal

abbrev pub invariant-loop-left : goal.invariant-loop-left
invariant-loop-left l = Pushing l.initial.list l.initial.lens l.list l.lens l.records (entry_of l.net l.rows l.pins) l.left

abbrev pub decreases-loop-left : goal.decreases-loop-left
decreases-loop-left l = l.left
