-- What the calls promise of the test file that an argument names, and what is said of a refusal.
pub mod NamedTests
pub mod Refusing
