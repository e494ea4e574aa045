-- Document 02's ticket 2: the circuit that the lines of .bench text define. Judging and Ending say what inner functions answer.
pub mod Circuit
pub mod Judging
pub mod Ending
