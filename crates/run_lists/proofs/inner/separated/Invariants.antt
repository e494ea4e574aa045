-- `run_lists::inner::separated` meets its contract: the list is separated as what is left of it is, from the least low that may follow.
use Rattle.model.proofs.Prelude.{◌≤◌, ◌-◌, ◌≡◌}
use Rattle.model.specs.Runs.{separated_runs_of}
use Rattle.run_lists.specs.RunLists.{runs_in_words}
use Rattle.run_lists.proofs.inner.separated.Given as goal

abbrev pub invariant-loop-i : goal.invariant-loop-i
invariant-loop-i l = (l.i ≤ l.to) × (separated_runs_of l.limit 1 (runs_in_words l.words l.from (l.to - l.from)) ≡ separated_runs_of l.limit l.least (runs_in_words l.words l.i (l.to - l.i)))
