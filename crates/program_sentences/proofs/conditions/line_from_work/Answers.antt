-- In each arm of the match the case is known, and its sentence is the definition's.
use Rattle.model.proofs.Prelude.{ap}
use Rattle.program_sentences.specs.Conditions.{condition_text}
use Rattle.program_sentences.proofs.ConditionLaws.{said}
use Rattle.program_sentences.proofs.conditions.line_from_work.Goals as goal

pub returns-in-WorkingRuns : goal.returns-in-WorkingRuns
returns-in-WorkingRuns c = λ t. said _ _ _ c.alone.ensures tt (ap condition_text c.in-WorkingRuns.is)

pub returns-in-StoreRuns : goal.returns-in-StoreRuns
returns-in-StoreRuns c = λ t. said _ _ _ c.alone-in-StoreRuns.ensures tt (ap condition_text c.in-StoreRuns.is)

pub returns-in-NoSuchNumber : goal.returns-in-NoSuchNumber
returns-in-NoSuchNumber c = λ t. said _ _ _ c.alone-in-NoSuchNumber.ensures tt (ap condition_text c.in-NoSuchNumber.is)

pub returns-in-NotAPath : goal.returns-in-NotAPath
returns-in-NotAPath c = λ t. said _ _ _ c.alone-in-NotAPath.ensures tt (ap condition_text c.in-NotAPath.is)

pub returns-in-ReportMark : goal.returns-in-ReportMark
returns-in-ReportMark c = λ t. said _ _ _ c.alone-in-ReportMark.ensures tt (ap condition_text c.in-ReportMark.is)

pub returns-in-ReportLength : goal.returns-in-ReportLength
returns-in-ReportLength c = λ t. said _ _ _ c.alone-in-ReportLength.ensures tt (ap condition_text c.in-ReportLength.is)

pub returns-in-ReportBytes : goal.returns-in-ReportBytes
returns-in-ReportBytes c = λ t. said _ _ _ c.alone-in-ReportBytes.ensures tt (ap condition_text c.in-ReportBytes.is)

pub returns-in-NetlistBufferLength : goal.returns-in-NetlistBufferLength
returns-in-NetlistBufferLength c = λ t. said _ _ _ c.alone-in-NetlistBufferLength.ensures tt (ap condition_text c.in-NetlistBufferLength.is)

pub returns-in-BenchLine : goal.returns-in-BenchLine
returns-in-BenchLine c = λ t. said _ _ _ c.alone-in-BenchLine.ensures tt (ap condition_text c.in-BenchLine.is)

pub returns-in-BenchName : goal.returns-in-BenchName
returns-in-BenchName c = λ t. said _ _ _ c.alone-in-BenchName.ensures tt (ap condition_text c.in-BenchName.is)

pub returns-in-BenchCount : goal.returns-in-BenchCount
returns-in-BenchCount c = λ t. said _ _ _ c.alone-in-BenchCount.ensures tt (ap condition_text c.in-BenchCount.is)
