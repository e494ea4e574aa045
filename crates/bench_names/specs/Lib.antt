-- The nets of names.
pub mod NameNets
