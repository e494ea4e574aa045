pub mod GroupCases
pub mod AttachCases
pub mod JoinCases
pub mod TreeCases
