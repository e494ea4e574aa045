-- `path_lines::walk::put_loaded` meets its contract: a netlist that is refused has no path, and another's tables are those of the walk.
use Rattle.path_lines.proofs.PathCases.{load-cases}
use Rattle.path_lines.proofs.walk.put_loaded.Goals as goal

pub load-answer-requires : goal.load-answer-requires
load-answer-requires c = search load-cases

pub put_walk-requires : goal.put_walk-requires
put_walk-requires c = search load-cases

pub returns-in-Err : goal.returns-in-Err
returns-in-Err c = search load-cases
