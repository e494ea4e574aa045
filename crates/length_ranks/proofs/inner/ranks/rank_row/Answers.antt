-- `length_ranks::inner::ranks::rank_row` meets its contract: the rows of the outputs before, then the partial paths of the output that the number ends at.
use Rattle.length_ranks.proofs.RankCases.{wanted, rank_none, rank_end, rank-cases}
use Rattle.length_ranks.proofs.inner.ranks.rank_row.Goals as goal

pub returns-then-number-lt1 : goal.returns-then-number-lt1
returns-then-number-lt1 c = rank_none c.requires c.if-number-lt1.true

pub outputs_part-outputs-requires : goal.outputs_part-outputs-requires
outputs_part-outputs-requires c = let task = wanted c.requires c.if-number-lt1.false in search (task, rank-cases)

pub pick_output-out-requires : goal.pick_output-out-requires
pick_output-out-requires c = let task = wanted c.requires c.if-number-lt1.false in search (task, rank-cases)

pub add_outputs-requires : goal.add_outputs-requires
add_outputs-requires c = search rank-cases

pub add_partials-requires : goal.add_partials-requires
add_partials-requires c =
    let task = wanted c.requires c.if-number-lt1.false in
    search (task, rank-cases)

pub returns : goal.returns
returns c =
    rank_end c.requires c.if-number-lt1.false _ c.outputs_part-outputs.ensures _ c.pick_output-out.ensures _ c.add_outputs.ensures
    _ c.add_partials.ensures
