-- Laws that the proofs of several functions, or of later crates, cite.
pub mod BytePartLaws
pub mod TextLineLaws
pub mod ByteCases
pub mod TokenLaws
pub mod ValueLaws
pub mod KeyLaws
pub mod NamePlaceLaws
pub mod StatementLaws
pub mod StateCases
pub mod KindLaws
pub mod PinWalkLaws
