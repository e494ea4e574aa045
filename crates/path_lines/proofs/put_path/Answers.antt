-- `path_lines::put_path` meets its contract: the buffer first, then the refusal or the path.
use Rattle.path_lines.proofs.PathCases.{path-cases}
use Rattle.path_lines.proofs.put_path.Goals as goal

pub returns-then-out-lt-PATH_BYTES : goal.returns-then-out-lt-PATH_BYTES
returns-then-out-lt-PATH_BYTES c = search path-cases

pub returns-in-Err : goal.returns-in-Err
returns-in-Err c = search path-cases

pub returns-in-Ok : goal.returns-in-Ok
returns-in-Ok c = search path-cases
