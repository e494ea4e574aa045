-- `exhaust_text::paths_in` meets its contract: the survey's number of paths, and none of a refused netlist.
use Rattle.exhaust_text.proofs.BlockShownCases.{paths-cases}
use Rattle.exhaust_text.proofs.paths_in.Goals as goal

pub returns-in-Err : goal.returns-in-Err
returns-in-Err c = search paths-cases

pub returns-in-Ok : goal.returns-in-Ok
returns-in-Ok c = search paths-cases
