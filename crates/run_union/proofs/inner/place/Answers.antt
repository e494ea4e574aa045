-- `run_union::inner::place` meets its contract: two words written behind the last run are the list with one run more.
use Rattle.model.proofs.Prelude.{length-set, arith, rules}
use Rattle.run_union.proofs.AppendCases.{place-room, place-full}
use Rattle.run_union.proofs.inner.place.Goals as goal

pub bounds-words-at-then-count-capacity : goal.bounds-words-at-then-count-capacity
bounds-words-at-then-count-capacity c = simp length-set (omega arith)

pub returns-then-count-capacity : goal.returns-then-count-capacity
returns-then-count-capacity c = search (place-room, rules)

pub returns-else-count-capacity : goal.returns-else-count-capacity
returns-else-count-capacity c = search (place-full, rules)
