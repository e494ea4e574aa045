-- `single_intervals::nets::add_gate` meets its contract: no open pin's net has a run, or the runs are made pin by pin.
use Rattle.single_intervals.proofs.OpenRunLaws.{pass-cases}
use Rattle.single_intervals.proofs.nets.add_gate.Goals as goal

pub open_runs-requires : goal.open_runs-requires
open_runs-requires c = search pass-cases

pub returns-then-open_runs-eq0 : goal.returns-then-open_runs-eq0
returns-then-open_runs-eq0 c = search pass-cases
