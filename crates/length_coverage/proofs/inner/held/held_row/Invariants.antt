-- `length_coverage::held::held_row` meets its contract: what is added so far, with what the runs that are left hold, is the whole.
use Rattle.model.proofs.Prelude.{◌-◌}
use Rattle.length_coverage.proofs.HeldCases.{Added}
use Rattle.length_coverage.proofs.inner.held.held_row.Given as goal

abbrev pub invariant-loop-i : goal.invariant-loop-i
invariant-loop-i l = Added l.netlist l.positions l.counts l.shape l.rows l.words l.sums l.runs l.i
