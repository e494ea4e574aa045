-- The cases of each public call, then the steps together, the public calls together, and the theorem.
pub mod BeginCases
pub mod PieceCases
pub mod EndCases
pub mod TogetherHolds
pub mod TakenLaws
pub mod CallsTogether
pub mod PiecesHold
