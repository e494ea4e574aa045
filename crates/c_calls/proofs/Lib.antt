-- Code and answer words of each call, by its cases; that a fault number leads back.
pub mod AnswerCases
pub mod FaultNumberCases
pub mod FaultNumbersHold
