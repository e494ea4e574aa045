pub mod GateReading
