-- `path_lines::put_bench_path` meets its contract: the buffer first, then the converter's refusal or the path.
use Rattle.path_lines.proofs.BenchCases.{bench-cases}
use Rattle.path_lines.proofs.put_bench_path.Goals as goal

pub returns-then-out-lt-PATH_BYTES : goal.returns-then-out-lt-PATH_BYTES
returns-then-out-lt-PATH_BYTES c = search bench-cases

pub slice_bounds-netlist-end : goal.slice_bounds-netlist-end
slice_bounds-netlist-end c = search bench-cases

pub slice_bounds-put_path-end : goal.slice_bounds-put_path-end
slice_bounds-put_path-end c = search bench-cases

pub returns-in-Err : goal.returns-in-Err
returns-in-Err c = search bench-cases

pub returns-in-Ok : goal.returns-in-Ok
returns-in-Ok c = search bench-cases
