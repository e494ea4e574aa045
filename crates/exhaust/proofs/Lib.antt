-- All pairs on the tables of a netlist, the cases of the call, and what the value that it returns shows.
pub mod PairCases
pub mod ExhaustCases
pub mod ReturnedHolds
