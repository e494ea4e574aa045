-- Codes and answer words: what a refusal and a value leave, and numbers stored one after another.
pub mod CodeLaws
pub mod StoredLaws
