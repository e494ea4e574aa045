-- `tree_check::inner::leaf_true` meets its contract: each test is one of the definition, in its order.
use Rattle.model.proofs.Prelude.{rules}
use Rattle.tree_check.proofs.TestCases.{leaf-no0, leaf-no1, leaf-no2, leaf-code}
use Rattle.tree_check.proofs.inner.leaf_true.Goals as goal

pub returns-then-low-lt1 : goal.returns-then-low-lt1
returns-then-low-lt1 c = search (leaf-no0, rules)

pub returns-then-high-low : goal.returns-then-high-low
returns-then-high-low c = search (leaf-no1, rules)

pub returns-then-high-gt-MAX_COUNT : goal.returns-then-high-gt-MAX_COUNT
returns-then-high-gt-MAX_COUNT c = search (leaf-no2, rules)

pub returns : goal.returns
returns c = search (leaf-code, rules)
