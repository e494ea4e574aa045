-- Load requests.
pub mod Requests
pub mod AskedLoads
