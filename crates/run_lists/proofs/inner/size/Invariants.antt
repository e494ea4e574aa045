-- `run_lists::inner::size` meets its contract: the sum so far and the size of what is left are the whole, which is at most 2^62.
use Rattle.model.proofs.Prelude.{◌≤◌, ◌+◌, ◌-◌, ◌≡◌}
use Rattle.model.specs.Runs.{size}
use Rattle.run_lists.specs.RunLists.{runs_in_words}
use Rattle.run_lists.proofs.inner.size.Given as goal

abbrev pub invariant-loop-i : goal.invariant-loop-i
invariant-loop-i l = (l.from ≤ l.i) × (l.i ≤ l.to) × (l.sum + size (runs_in_words l.words l.i (l.to - l.i)) ≡ size (runs_in_words l.words l.from (l.to - l.from)))
