-- `exhaust::pairs::apply_all_pairs` meets its contract. The invariant, `TakingPairs`: the pairs of the V1 that are left, from the store so far, give the whole.
use Rattle.model.proofs.Prelude.{rules}
use Rattle.exhaust.proofs.PairCases.{taking_ready, taking_below, taking_next, all-cases}
use Rattle.exhaust.proofs.pairs.apply_all_pairs.Goals as goal

pub loop-first-init : goal.loop-first-init
loop-first-init c = search all-cases

pub apply_pairs_with-said-requires : goal.apply_pairs_with-said-requires
apply_pairs_with-said-requires c =
    let count = c.vectors_of-count.ensures in
    let so_far = c.loop-first.invariant in
    let start = c.requires in
    record {
      blocks_ready = taking_ready _ _ _ _ _ _ _ count so_far start.blocks_ready;
      inputs_le_most_inputs = (start.inputs_le_most_inputs, taking_below _ _ _ _ _ _ _ count so_far start.blocks_ready c.loop-first-test.true);
    }

pub returns-in-Err : goal.returns-in-Err
returns-in-Err c = search all-cases

pub enum_told-1 : goal.enum_told-1
enum_told-1 c = search rules

pub loop-first-preserved : goal.loop-first-preserved
loop-first-preserved c =
    taking_next _ _ _ _ _ _ _ c.vectors_of-count.ensures c.loop-first.invariant c.requires.blocks_ready c.loop-first-test.true c.apply_pairs_with-said.ensures
    c.in-Ok.is

pub shape_of-store : goal.shape_of-store
shape_of-store c = search all-cases

pub returns : goal.returns
returns c = search all-cases
