pub mod OutputReading
