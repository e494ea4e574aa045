-- The cases of the audit, and demand 3 of the calls.
pub mod AuditCases
pub mod PromisesHold
pub mod CountedCallsHold
