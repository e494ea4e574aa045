-- `exports::tree_calls::genduwal_tree_insert` meets its contract: code and words are those of the answer of the call beneath.
use Rattle.model.proofs.Prelude.{◌∙◌}
use Rattle.exports.proofs.tree_calls.genduwal_tree_insert.Goals as goal

pub returns : goal.returns
returns c =
    record { result_value = c.code_of.ensures ∙ c.tree_insert-changed.ensures.answer; holding = c.tree_insert-changed.ensures.holding }
