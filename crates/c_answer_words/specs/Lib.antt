-- What a C caller finds in the code and in the answer words.
pub mod Codes
