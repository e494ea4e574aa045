-- What the calls on a tree answer, as a C caller finds it.
pub mod AnswerWords
