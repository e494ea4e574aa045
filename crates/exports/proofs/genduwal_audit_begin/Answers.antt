-- `exports::genduwal_audit_begin` meets its contract: code and words are those of the answer of the call beneath.
use Rattle.model.proofs.Prelude.{◌∙◌}
use Rattle.exports.proofs.genduwal_audit_begin.Goals as goal

pub returns : goal.returns
returns c =
    record { result_value = c.code_of.ensures ∙ c.audit_begin-begun.ensures.answer; store_after = c.audit_begin-begun.ensures.store }
