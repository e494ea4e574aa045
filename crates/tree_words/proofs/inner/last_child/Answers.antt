-- `tree_words::inner::last_child` meets its contract: the third child where there is one, else the second.
use Rattle.model.proofs.Prelude.{rules}
use Rattle.tree_words.proofs.ChildLaws.{last-is-second, last-is-third}
use Rattle.tree_words.proofs.inner.last_child.Goals as goal

pub returns-then-third-eq0 : goal.returns-then-third-eq0
returns-then-third-eq0 c = search (last-is-second, rules)

pub returns : goal.returns
returns c = search (last-is-third, rules)
