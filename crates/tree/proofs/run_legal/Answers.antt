-- `tree::run_legal` meets its contract: each test is one of the definition, in its order.
use Rattle.model.proofs.Prelude.{rules}
use Rattle.tree.proofs.SearchCases.{legal-zero, legal-order, legal-most}
use Rattle.tree.proofs.run_legal.Goals as goal

pub returns-then-low-lt1 : goal.returns-then-low-lt1
returns-then-low-lt1 c = search (legal-zero, rules)

pub returns-then-high-low : goal.returns-then-high-low
returns-then-high-low c = search (legal-order, rules)

pub returns : goal.returns
returns c = search (legal-most, rules)
