pub mod TreeAnswerCases
