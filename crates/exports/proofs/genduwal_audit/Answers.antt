-- `exports::genduwal_audit` meets its contract: code and words are those of the answer of the call beneath.
use Rattle.model.proofs.Prelude.{◌∙◌}
use Rattle.exports.proofs.genduwal_audit.Goals as goal

pub returns : goal.returns
returns c =
    record { result_value = c.code_of.ensures ∙ c.audit-audited.ensures.answer; store_after = c.audit-audited.ensures.store; work_after = c.audit-audited.ensures.work }
