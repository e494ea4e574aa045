-- `length_untested::downward::search_down` meets its contract: what it finds from the length at hand on is what it finds from the first.
use Rattle.length_untested.proofs.DownCases.{Down}
use Rattle.length_untested.proofs.downward.search_down.Given as goal

abbrev pub invariant-loop-gates : goal.invariant-loop-gates
invariant-loop-gates l = Down l.netlist l.positions l.counts l.shape l.rows l.words l.paths l.held l.total l.fn.wanted.gates l.fn.wanted.from l.gates l.from
