-- `length_ranks::inner::ranks::add_output` meets its contract: an input net adds nothing, a gate's its row.
use Rattle.length_ranks.proofs.OutputSumCases.{output-row-cases, gate-room, gate-added}
use Rattle.length_ranks.proofs.inner.ranks.add_output.Goals as goal

pub returns-then-net-inputs : goal.returns-then-net-inputs
returns-then-net-inputs c = search output-row-cases

pub add_longer-requires : goal.add_longer-requires
add_longer-requires c =
    gate-room _ _ _ _ c.requires.1 c.if-net-inputs.false

pub returns : goal.returns
returns c =
    gate-added _ _ _ _ c.requires.1 c.if-net-inputs.false _ c.add_longer.ensures
