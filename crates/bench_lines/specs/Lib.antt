-- Document 02's ticket 2: lines of ISCAS.bench text, and what a line says. Text comes first; the others say what inner functions answer.
pub mod Text
pub mod LineReading
pub mod Keys
pub mod Stating
