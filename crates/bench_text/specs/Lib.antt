-- Document 02's ticket 2: the netlist file that .bench text becomes, after bench_lines' Text and bench_circuit's Circuit. Read them in this order.
pub mod NetlistFile
pub mod Taken
pub mod Calls
pub mod Examples
pub mod FileWriting
pub mod Converting
