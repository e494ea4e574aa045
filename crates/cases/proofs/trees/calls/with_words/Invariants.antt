-- `cases::trees::calls::with_words` is safe and ends: the place stays in the words.
use Rattle.model.proofs.Prelude.{◌≤◌, ◌-◌, length}
use Rattle.cases.proofs.trees.calls.with_words.Given as goal

abbrev pub invariant-loop-at : goal.invariant-loop-at
invariant-loop-at l = (l.at ≤ length l.words)
