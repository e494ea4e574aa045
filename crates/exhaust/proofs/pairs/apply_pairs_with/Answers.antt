-- `exhaust::pairs::apply_pairs_with` meets its contract: the pairs of a V1 are put into words, and applied as a block of tests.
use Rattle.exhaust.proofs.PairCases.{pairs-ready, pairs-with}
use Rattle.exhaust.proofs.pairs.apply_pairs_with.Goals as goal

pub apply_tests-applied-requires : goal.apply_tests-applied-requires
apply_tests-applied-requires c =
    let few = c.requires.inputs_le_most_inputs in
    let put = c.put_pairs-records.ensures in
    pairs-ready c.requires.blocks_ready few.0 _ few.1 _ put.0 put.2

pub returns : goal.returns
returns c =
    let few = c.requires.inputs_le_most_inputs in
    let put = c.put_pairs-records.ensures in
    pairs-with c.requires.blocks_ready few.0 _ few.1 _ put.0 put.2 c.apply_tests-applied.ensures
