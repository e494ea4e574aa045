-- `run_union::inner::merging::first_apart` meets its contract: the place lies within the runs that are asked.
use Rattle.model.proofs.Prelude.{arith, rules}
use Rattle.run_union.proofs.MiddleLaws.{apart-at, apart-end}
use Rattle.run_union.proofs.inner.merging.first_apart.Goals as goal

pub returns-then-high-words : goal.returns-then-high-words
returns-then-high-words c = (omega arith, omega arith, search (apart-at, rules))

pub returns : goal.returns
returns c = (omega arith, omega arith, search (apart-end, rules))
