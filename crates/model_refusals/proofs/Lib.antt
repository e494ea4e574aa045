-- Which cases of the enum have a number from 80 on.
pub mod LaterTags
