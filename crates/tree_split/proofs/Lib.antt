pub mod FirstChildLaws
pub mod SecondCases
pub mod PartRoom
pub mod LeafPartCases
pub mod BelowCases
pub mod AboveCases
