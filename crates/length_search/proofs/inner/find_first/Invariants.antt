-- `length_search::inner::find_first` meets its contract: the two numbers draw together, with the first path of the length between them.
use Rattle.model.proofs.Prelude.{◌-◌}
use Rattle.length_search.proofs.FindCases.{Drawing}
use Rattle.length_search.proofs.inner.find_first.Given as goal

abbrev pub invariant-loop-over : goal.invariant-loop-over
invariant-loop-over l = Drawing l.netlist l.positions l.counts l.shape l.rows l.gates l.low l.high l.before l.under l.over

abbrev pub decreases-loop-over : goal.decreases-loop-over
decreases-loop-over l = l.over - l.under
