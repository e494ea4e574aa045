-- `run_union::inner::append_each` meets its contract: what is added so far and the runs that are left, shifted, make the total.
use Rattle.model.proofs.Prelude.{rules}
use Rattle.run_union.proofs.EachSteps.{shifting_start, shifting_room, shifting_run, shifting_full, shifting_more, shifting_end}
use Rattle.run_union.proofs.inner.append_each.Goals as goal

pub loop-i-init : goal.loop-i-init
loop-i-init c = search (shifting_start, rules)

pub returns-in_err-n : goal.returns-in_err-n
returns-in_err-n c = rw c.from_residual.ensures (search (c.in_err-n.was, shifting_full, rules))

pub loop-i-preserved : goal.loop-i-preserved
loop-i-preserved c = search (c.in_ok-n.was, shifting_more, rules)

pub returns : goal.returns
returns c = search (shifting_end, rules)

pub append_run_shifted-requires-clause-run_within : goal.append_run_shifted-requires-clause-run_within
append_run_shifted-requires-clause-run_within c = search (shifting_start, shifting_room, shifting_run, shifting_full, shifting_more, shifting_end, rules)
