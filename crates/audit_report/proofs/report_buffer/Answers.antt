-- `audit_report::report_buffer` meets its contract, by the law of a repeated value's length.
use Rattle.model.proofs.Prelude.{ℕ, sym, length-replicate}
use Rattle.audit_report.proofs.report_buffer.Goals as goal

pub returns : goal.returns
returns c = sym (length-replicate {A = ℕ} 2097155 0)
