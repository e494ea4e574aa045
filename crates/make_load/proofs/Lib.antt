-- What the loop that writes a load needs.
pub mod WriteCases
