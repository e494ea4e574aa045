-- The cases of the functions, then what holds of the answers to a whole text.
pub mod LineNumberCases
pub mod AskedFaultCases
pub mod AnswerLineCases
pub mod AnsweredPieceLaws
pub mod AnswerSteps
pub mod QuestionsHold
pub mod StoreAnswersHold
pub mod QuestionExamplesHold
