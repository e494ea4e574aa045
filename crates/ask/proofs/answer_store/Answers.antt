-- `ask::answer_store` is safe: trees that were filled can be asked.
use Rattle.model.proofs.Prelude.{arith}
use Rattle.tree_filling.proofs.TreeFillCases.{trees-ready}
use Rattle.ask.proofs.answer_store.Goals as goal

pub answer_input-requires : goal.answer_input-requires
answer_input-requires c =
    let trees = trees-ready _ _ _ _ _ _ _ c.fill_trees-filled.ensures _ c.in-Ok.is in
    (trees, omega (arith, c.no_questions-space.ensures), omega (arith, c.large_buffer-out.ensures))
