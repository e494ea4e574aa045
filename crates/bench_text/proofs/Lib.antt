-- Laws that the proofs of several functions, or of later crates, cite.
pub mod ExamplesHold
pub mod GateLaws
pub mod WriteLaws
pub mod HeaderLaws
pub mod WholeLaws
pub mod ConvertCases
pub mod NetlistFileCases
pub mod FitLaws
pub mod BytesLaws
pub mod ReadBack
pub mod SurveyTakes
