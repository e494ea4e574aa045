-- Values packed into a number; rules of packed bytes, computed; then those of a gate, kind by kind.
pub mod PackBitsLaws
pub mod PackedLaws
pub mod KindCases
