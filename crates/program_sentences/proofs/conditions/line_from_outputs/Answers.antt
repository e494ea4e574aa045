-- In each arm of the match the case is known, and its sentence is the definition's.
use Rattle.model.proofs.Prelude.{ap}
use Rattle.program_sentences.specs.Conditions.{condition_text}
use Rattle.program_sentences.proofs.ConditionLaws.{said}
use Rattle.program_sentences.proofs.conditions.line_from_outputs.Goals as goal

pub returns-in-OutputCut : goal.returns-in-OutputCut
returns-in-OutputCut c = λ t. said _ _ _ c.alone.ensures tt (ap condition_text c.in-OutputCut.is)

pub returns-in-OutputNet : goal.returns-in-OutputNet
returns-in-OutputNet c = λ t. said _ _ _ c.alone-in-OutputNet.ensures tt (ap condition_text c.in-OutputNet.is)

pub returns-in-BytesLeftOver : goal.returns-in-BytesLeftOver
returns-in-BytesLeftOver c = λ t. said _ _ _ c.alone-in-BytesLeftOver.ensures tt (ap condition_text c.in-BytesLeftOver.is)

pub returns-in-TotalOverLimit : goal.returns-in-TotalOverLimit
returns-in-TotalOverLimit c = λ t. said _ _ _ c.alone-in-TotalOverLimit.ensures tt (ap condition_text c.in-TotalOverLimit.is)

pub returns-in-RecordLength : goal.returns-in-RecordLength
returns-in-RecordLength c = λ t. said _ _ _ c.alone-in-RecordLength.ensures tt (ap condition_text c.in-RecordLength.is)

pub returns-in-RecordMark : goal.returns-in-RecordMark
returns-in-RecordMark c = λ t. said _ _ _ c.alone-in-RecordMark.ensures tt (ap condition_text c.in-RecordMark.is)

pub returns-in-SpareBit : goal.returns-in-SpareBit
returns-in-SpareBit c = λ t. said _ _ _ c.alone-in-SpareBit.ensures tt (ap condition_text c.in-SpareBit.is)

pub returns-in-TestFileLength : goal.returns-in-TestFileLength
returns-in-TestFileLength c = λ t. said _ _ _ c.alone-in-TestFileLength.ensures tt (ap condition_text c.in-TestFileLength.is)

pub returns-in-RunCount : goal.returns-in-RunCount
returns-in-RunCount c = λ t. said _ _ _ c.alone-in-RunCount.ensures tt (ap condition_text c.in-RunCount.is)

pub returns-in-RunRange : goal.returns-in-RunRange
returns-in-RunRange c = λ t. said _ _ _ c.alone-in-RunRange.ensures tt (ap condition_text c.in-RunRange.is)

pub returns-in-WordPastRuns : goal.returns-in-WordPastRuns
returns-in-WordPastRuns c = λ t. said _ _ _ c.alone-in-WordPastRuns.ensures tt (ap condition_text c.in-WordPastRuns.is)
