-- Vectors that are drawn.
pub mod Drawing
pub mod DrawnVector
