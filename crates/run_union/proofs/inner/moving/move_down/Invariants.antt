-- `run_union::inner::moving::move_down` meets its contract: the words are those with the runs moved so far written.
use Rattle.model.proofs.Prelude.{◌≤◌, ◌≡◌, length}
use Rattle.run_lists.specs.RunLists.{runs_in_words, write_runs_of}
use Rattle.run_union.proofs.inner.moving.move_down.Given as goal

abbrev pub invariant-loop-k : goal.invariant-loop-k
invariant-loop-k l = (l.k ≤ l.count) × (length l.words ≡ length l.initial.words) × (l.words ≡ write_runs_of l.initial.words l.to (runs_in_words l.initial.words l.from l.k))
