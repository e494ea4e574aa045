-- The cases of the sentences.
pub mod ConditionLaws
