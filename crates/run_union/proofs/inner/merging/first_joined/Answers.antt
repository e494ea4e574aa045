-- `run_union::inner::merging::first_joined` meets its contract: before place 0 there is no run, and before another the one that is asked ends too low.
use Rattle.model.proofs.Prelude.{rules}
use Rattle.run_union.proofs.MiddleLaws.{joined_at}
use Rattle.run_union.proofs.inner.merging.first_joined.Goals as goal

pub returns-then-words-at : goal.returns-then-words-at
returns-then-words-at c = search (joined_at, rules)
