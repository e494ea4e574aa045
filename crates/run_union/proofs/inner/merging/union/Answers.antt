-- `run_union::inner::merging::union` meets its contract: the runs added so far and those left of both lists, by ascending low, make the runs of the union.
use Rattle.model.proofs.Prelude.{rules}
use Rattle.run_union.proofs.UnionSteps.{merging_start, merging_room, merging_end, left_below, left-run, left-full, left-more, right-below, right-run, right-full, right-more}
use Rattle.run_union.proofs.inner.merging.union.Goals as goal

pub loop-i-init : goal.loop-i-init
loop-i-init c = search (merging_start, rules)

pub returns-in_default : goal.returns-in_default
returns-in_default c = search (left-full, rules)

pub returns-in_default-append_own : goal.returns-in_default-append_own
returns-in_default-append_own c = search (right-full, rules)

pub returns : goal.returns
returns c = search (merging_end, rules)

pub append_own-requires-clause-run_within : goal.append_own-requires-clause-run_within
append_own-requires-clause-run_within c = search (merging_start, merging_room, merging_end, left_below, left-run, left-full, left-more, right-below, right-run, right-full, right-more, rules)

pub append_run-requires-clause-run_within : goal.append_run-requires-clause-run_within
append_run-requires-clause-run_within c = search (merging_start, merging_room, merging_end, left_below, left-run, left-full, left-more, right-below, right-run, right-full, right-more, rules)

pub loop-i-preserved : goal.loop-i-preserved
loop-i-preserved c = search (merging_start, merging_room, merging_end, left_below, left-run, left-full, left-more, right-below, right-run, right-full, right-more, rules)

pub loop-i-preserved-then-left_first : goal.loop-i-preserved-then-left_first
loop-i-preserved-then-left_first c = search (merging_start, merging_room, merging_end, left_below, left-run, left-full, left-more, right-below, right-run, right-full, right-more, rules)
