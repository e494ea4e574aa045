-- `exports::genduwal_empty` meets its contract: code and words are those of the answer of the call beneath.
use Rattle.model.proofs.Prelude.{◌∙◌}
use Rattle.exports.proofs.genduwal_empty.Goals as goal

pub returns : goal.returns
returns c =
    record { result_value = c.code_of.ensures ∙ c.empty-emptied.ensures.answer; store_after = c.empty-emptied.ensures.store }
