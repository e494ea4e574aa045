-- `listing::list_circuit` is safe: the first line lies in the buffer, and a netlist that passed has its tables.
use Rattle.listing.proofs.ListCases.{List-cases}
use Rattle.listing.proofs.list_circuit.Goals as goal

pub slice_bounds-print-end : goal.slice_bounds-print-end
slice_bounds-print-end c = search List-cases
