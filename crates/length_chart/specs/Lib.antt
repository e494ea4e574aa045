-- Coverage by length as a picture.
pub mod Chart
