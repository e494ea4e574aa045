-- In each arm of the match the case is known, and its sentence is the definition's.
use Rattle.model.proofs.Prelude.{ap}
use Rattle.program_sentences.specs.Conditions.{condition_text}
use Rattle.program_sentences.proofs.ConditionLaws.{said}
use Rattle.program_sentences.proofs.conditions.line_from_class.Goals as goal

pub returns-in-UnknownClass : goal.returns-in-UnknownClass
returns-in-UnknownClass c = λ t. said _ _ _ c.alone.ensures tt (ap condition_text c.in-UnknownClass.is)

pub returns-in-PathTooLong : goal.returns-in-PathTooLong
returns-in-PathTooLong c = λ t. said _ _ _ c.alone-in-PathTooLong.ensures tt (ap condition_text c.in-PathTooLong.is)

pub returns-in-UnchangedPair : goal.returns-in-UnchangedPair
returns-in-UnchangedPair c = λ t. said _ _ _ c.alone-in-UnchangedPair.ensures tt (ap condition_text c.in-UnchangedPair.is)

pub returns-in-TestsFull : goal.returns-in-TestsFull
returns-in-TestsFull c = λ t. said _ _ _ c.alone-in-TestsFull.ensures tt (ap condition_text c.in-TestsFull.is)

pub returns-in-TreeLength : goal.returns-in-TreeLength
returns-in-TreeLength c = λ t. said _ _ _ c.alone-in-TreeLength.ensures tt (ap condition_text c.in-TreeLength.is)

pub returns-in-TreeWords : goal.returns-in-TreeWords
returns-in-TreeWords c = λ t. said _ _ _ c.alone-in-TreeWords.ensures tt (ap condition_text c.in-TreeWords.is)

pub returns-in-ViewerPlaces : goal.returns-in-ViewerPlaces
returns-in-ViewerPlaces c = λ t. said _ _ _ c.alone-in-ViewerPlaces.ensures tt (ap condition_text c.in-ViewerPlaces.is)

pub returns-in-ForeignFault : goal.returns-in-ForeignFault
returns-in-ForeignFault c = λ t. said _ _ _ c.alone-in-ForeignFault.ensures tt (ap condition_text c.in-ForeignFault.is)

pub returns-in-TooManyInputs : goal.returns-in-TooManyInputs
returns-in-TooManyInputs c = λ t. said _ _ _ c.alone-in-TooManyInputs.ensures tt (ap condition_text c.in-TooManyInputs.is)
