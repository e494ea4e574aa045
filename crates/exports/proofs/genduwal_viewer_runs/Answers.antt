-- `exports::genduwal_viewer_runs` meets its contract: code and words are those of the answer of the call beneath.
use Rattle.model.proofs.Prelude.{◌∙◌}
use Rattle.exports.proofs.genduwal_viewer_runs.Goals as goal

pub returns : goal.returns
returns c =
    record { result_value = c.code_of.ensures ∙ c.viewer_runs-written.ensures.answer; view_after = c.viewer_runs-written.ensures.words }
