-- Runs made in lent words: what the functions of `inner` promise.
pub mod Unions
