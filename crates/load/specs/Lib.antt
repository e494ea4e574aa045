-- Ticket 3 of document 02 as definitions: read them in this order.
pub mod Load
pub mod Calls
pub mod Answers
pub mod Passes
