pub mod Layout
pub mod Words
pub mod Robust
pub mod Table
pub mod Block
pub mod Lists
pub mod Masks
pub mod NetStates
