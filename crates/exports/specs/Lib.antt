-- What is claimed over several calls of the library.
pub mod ViewerCalls
