-- Coverage by length as text.
pub mod LengthTable
