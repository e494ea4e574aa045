-- `report_claim_words::with_field` meets its contract: one text for each case of the field.
use Rattle.model.proofs.Prelude.{ap, sym, rules}
use Rattle.report_claim_words.specs.ClaimWords.{field_name}
use Rattle.text_line.proofs.LineLaws.{as_part}
use Rattle.report_claim_words.proofs.with_field.Goals as goal

pub enum_told-1 : goal.enum_told-1
enum_told-1 c = search rules

pub returns-in-Tests : goal.returns-in-Tests
returns-in-Tests c = as_part _ _ _ _ c.with_text.ensures (sym (ap field_name c.in-Tests.is))

pub returns-in-Paths : goal.returns-in-Paths
returns-in-Paths c = as_part _ _ _ _ c.with_text-in-Paths.ensures (sym (ap field_name c.in-Paths.is))

pub returns-in-RisingRuns : goal.returns-in-RisingRuns
returns-in-RisingRuns c = as_part _ _ _ _ c.with_text-in-RisingRuns.ensures (sym (ap field_name c.in-RisingRuns.is))

pub returns-in-FallingRuns : goal.returns-in-FallingRuns
returns-in-FallingRuns c = as_part _ _ _ _ c.with_text-in-FallingRuns.ensures (sym (ap field_name c.in-FallingRuns.is))
