-- `report_claim_words::with_kind` meets its contract: one text for each case of what is wrong.
use Rattle.model.proofs.Prelude.{ap, sym, rules}
use Rattle.report_claim_words.specs.ClaimWords.{kind_text}
use Rattle.text_line.proofs.LineLaws.{as_part}
use Rattle.report_claim_words.proofs.with_kind.Goals as goal

pub enum_told-1 : goal.enum_told-1
enum_told-1 c = search rules

pub returns-in-FalseClaim : goal.returns-in-FalseClaim
returns-in-FalseClaim c = as_part _ _ _ _ c.with_text.ensures (sym (ap kind_text c.in-FalseClaim.is))

pub returns-in-NotRobust : goal.returns-in-NotRobust
returns-in-NotRobust c = as_part _ _ _ _ c.with_text-in-NotRobust.ensures (sym (ap kind_text c.in-NotRobust.is))

pub returns-in-Missed : goal.returns-in-Missed
returns-in-Missed c = as_part _ _ _ _ c.with_text-in-Missed.ensures (sym (ap kind_text c.in-Missed.is))
