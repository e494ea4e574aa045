-- `report_claim_words::with_plural` meets its contract: one text for each case.
use Rattle.model.proofs.Prelude.{arith, rules}
use Rattle.text_line.proofs.LineLaws.{as_part}
use Rattle.report_claim_words.proofs.WordCases.{plural_missed, plural_not_robust, plural_one, plural_more}
use Rattle.report_claim_words.proofs.with_plural.Goals as goal

pub enum_told-1 : goal.enum_told-1
enum_told-1 c = search rules

pub returns-then-count-eq1 : goal.returns-then-count-eq1
returns-then-count-eq1 c =
    let a = c.args in
    as_part _ _ _ _ c.with_text-then-count-eq1.ensures (plural_one a.kind a.count c.in-FalseClaim.is (omega arith))

pub returns-in-Missed : goal.returns-in-Missed
returns-in-Missed c =
    let a = c.args in
    as_part _ _ _ _ c.with_text.ensures (plural_missed a.kind a.count c.in-Missed.is)

pub returns-in-NotRobust : goal.returns-in-NotRobust
returns-in-NotRobust c =
    let a = c.args in
    as_part _ _ _ _ c.with_text-in-NotRobust.ensures (plural_not_robust a.kind a.count c.in-NotRobust.is)

pub returns-else-count-eq1 : goal.returns-else-count-eq1
returns-else-count-eq1 c =
    let a = c.args in
    as_part _ _ _ _ c.with_text-in-FalseClaim.ensures (plural_more a.kind a.count c.in-FalseClaim.is (λ e. omega (arith, e)))
