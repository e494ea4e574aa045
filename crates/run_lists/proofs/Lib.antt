pub mod MemberLaws
pub mod RunWordLaws
pub mod RunCutLaws
pub mod InsideSteps
pub mod SizeSteps
pub mod ContainsSteps
pub mod SeparatedSteps
