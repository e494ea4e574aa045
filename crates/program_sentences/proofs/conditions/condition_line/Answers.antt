-- In each arm of the match the case is known, and its sentence is the definition's.
use Rattle.model.proofs.Prelude.{ap}
use Rattle.program_sentences.specs.Conditions.{condition_text}
use Rattle.program_sentences.proofs.ConditionLaws.{said}
use Rattle.program_sentences.proofs.conditions.condition_line.Goals as goal

pub returns-in-StoreLength : goal.returns-in-StoreLength
returns-in-StoreLength c = said _ _ _ c.alone.ensures tt (ap condition_text c.in-StoreLength.is)

pub returns-in-WorkLength : goal.returns-in-WorkLength
returns-in-WorkLength c = said _ _ _ c.alone-in-WorkLength.ensures tt (ap condition_text c.in-WorkLength.is)

pub returns-in-PathBufferLength : goal.returns-in-PathBufferLength
returns-in-PathBufferLength c = said _ _ _ c.alone-in-PathBufferLength.ensures tt (ap condition_text c.in-PathBufferLength.is)

pub returns-in-ReportBufferLength : goal.returns-in-ReportBufferLength
returns-in-ReportBufferLength c = said _ _ _ c.alone-in-ReportBufferLength.ensures tt (ap condition_text c.in-ReportBufferLength.is)

pub returns-in-Header : goal.returns-in-Header
returns-in-Header c = said _ _ _ c.alone-in-Header.ensures tt (ap condition_text c.in-Header.is)

pub returns-in-HeaderRange : goal.returns-in-HeaderRange
returns-in-HeaderRange c = said _ _ _ c.alone-in-HeaderRange.ensures tt (ap condition_text c.in-HeaderRange.is)

pub returns-in-GateCut : goal.returns-in-GateCut
returns-in-GateCut c = said _ _ _ c.alone-in-GateCut.ensures tt (ap condition_text c.in-GateCut.is)

pub returns-in-GateKind : goal.returns-in-GateKind
returns-in-GateKind c = said _ _ _ c.alone-in-GateKind.ensures tt (ap condition_text c.in-GateKind.is)

pub returns-in-PinCount : goal.returns-in-PinCount
returns-in-PinCount c = said _ _ _ c.alone-in-PinCount.ensures tt (ap condition_text c.in-PinCount.is)

pub returns-in-PinNotLower : goal.returns-in-PinNotLower
returns-in-PinNotLower c = said _ _ _ c.alone-in-PinNotLower.ensures tt (ap condition_text c.in-PinNotLower.is)

pub returns-in-CountOverLimit : goal.returns-in-CountOverLimit
returns-in-CountOverLimit c = said _ _ _ c.alone-in-CountOverLimit.ensures tt (ap condition_text c.in-CountOverLimit.is)
