-- `tree::each::shorter` meets its contract: the test says which of the two is the smaller.
use Rattle.model.proofs.Prelude.{refl, inl, inr, rules}
use Rattle.tree.proofs.each.shorter.Goals as goal

pub returns-then-a-b : goal.returns-then-a-b
returns-then-a-b c = (search rules, search rules, inl refl)

pub returns : goal.returns
returns c = (search rules, search rules, inr refl)
