-- The call for one test and one fault, then what the functions below it do.
pub mod Detection
pub mod OpenPaths
pub mod WhichTests
