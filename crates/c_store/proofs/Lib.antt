pub mod StoreAnswerCases
