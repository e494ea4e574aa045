-- `run_union::inner::moving::move_runs` meets its contract: the runs go down, up, or stay where they are.
use Rattle.model.proofs.Prelude.{rules}
use Rattle.run_union.proofs.MoveSteps.{not_moved}
use Rattle.run_union.proofs.inner.moving.move_runs.Goals as goal

pub returns-else-from-to : goal.returns-else-from-to
returns-else-from-to c = search (not_moved, rules)
