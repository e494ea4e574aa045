-- `exports::genduwal_number_to_path` meets its contract: code and words are those of the answer of the call beneath.
use Rattle.model.proofs.Prelude.{◌∙◌}
use Rattle.exports.proofs.genduwal_number_to_path.Goals as goal

pub returns : goal.returns
returns c =
    record { result_value = c.code_of.ensures ∙ c.number_to_path-written.ensures.answer; path_after = c.number_to_path-written.ensures.buffer }
