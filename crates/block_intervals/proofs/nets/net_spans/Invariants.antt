-- `block_intervals::nets::net_spans` meets its contract: the live nets before the next one listed have their spans.
use Rattle.model.proofs.Prelude.{◌-◌, length}
use Rattle.block_intervals.proofs.NetSpanSteps.{NetsSpanned}
use Rattle.block_intervals.proofs.nets.net_spans.Given as goal

abbrev pub invariant-loop-i : goal.invariant-loop-i
invariant-loop-i l = NetsSpanned l.table l.offsets l.entries l.initial.spans l.initial.words l.spans l.words l.i l.made l.total
