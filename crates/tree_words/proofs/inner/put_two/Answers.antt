-- `tree_words::inner::put_two` meets its contract: the totals of the children fit into one word, and all eight words of the node are set.
use Rattle.model.proofs.Prelude.{rules}
use Rattle.tree_words.proofs.inner.put_two.Goals as goal

pub returns : goal.returns
returns c = search rules
