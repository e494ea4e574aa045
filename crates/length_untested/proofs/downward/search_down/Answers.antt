-- `length_untested::downward::search_down` meets its contract: what it finds from the length at hand on is what it finds from the first.
use Rattle.model.proofs.Prelude.{arith}
use Rattle.length_untested.proofs.DownCases.{down-cases, down-looked, down-end}
use Rattle.length_untested.proofs.downward.search_down.Goals as goal

pub held_row-held-requires : goal.held_row-held-requires
held_row-held-requires c = search down-cases

pub loop-gates-init : goal.loop-gates-init
loop-gates-init c = search down-cases

pub offset_bounds-paths-gates : goal.offset_bounds-paths-gates
offset_bounds-paths-gates c = search down-cases

pub bounds-paths-gates : goal.bounds-paths-gates
bounds-paths-gates c = search down-cases

pub offset_bounds-held-gates : goal.offset_bounds-held-gates
offset_bounds-held-gates c = search down-cases

pub bounds-held-gates : goal.bounds-held-gates
bounds-held-gates c = search down-cases

pub loop-gates-preserved-then-paths-gates : goal.loop-gates-preserved-then-paths-gates
loop-gates-preserved-then-paths-gates c = search down-cases

pub next_untested-path-requires : goal.next_untested-path-requires
next_untested-path-requires c = down-looked c.loop-gates.invariant

pub returns-then-path-ne0 : goal.returns-then-path-ne0
returns-then-path-ne0 c = search down-cases

pub loop-gates-preserved : goal.loop-gates-preserved
loop-gates-preserved c = search down-cases

pub returns : goal.returns
returns c = down-end c.loop-gates.invariant (omega arith)
