-- What a survey, a piece, a load and the conversions of numbers answer, as a C caller finds it.
pub mod Answers
pub mod FaultNumbers
