-- A store's words: document 01's answer for each case of the code's types, and what the checks leave known.
pub mod WordAnswers
pub mod Sound
