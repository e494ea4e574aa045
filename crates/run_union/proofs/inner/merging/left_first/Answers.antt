-- `run_union::inner::merging::left_first` meets its contract: with runs left in both lists, the lower low comes first.
use Rattle.model.proofs.Prelude.{rules}
use Rattle.run_union.proofs.UnionSteps.{left_first-none, left_first-only, left_first-both}
use Rattle.run_union.proofs.inner.merging.left_first.Goals as goal

pub returns-then-m-i : goal.returns-then-m-i
returns-then-m-i c = search (left_first-none, rules)

pub returns-then-n-j : goal.returns-then-n-j
returns-then-n-j c = search (left_first-only, rules)

pub returns : goal.returns
returns c = search (left_first-both, rules)
