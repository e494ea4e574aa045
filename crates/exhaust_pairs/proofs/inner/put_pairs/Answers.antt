-- `exhaust_pairs::inner::put_pairs` meets its contract. The invariant: the words hold the pairs with the V2 counted so far.
use Rattle.model.proofs.Prelude.{rules}
use Rattle.model.proofs.Prelude.{◌-◌}
use Rattle.exhaust_pairs.proofs.HeldPairLaws.{held-skip, held-put, held-end, held-cases}
use Rattle.exhaust_pairs.proofs.inner.put_pairs.Goals as goal

pub vectors_of-count-requires : goal.vectors_of-count-requires
vectors_of-count-requires c = search held-cases

pub loop-second-init : goal.loop-second-init
loop-second-init c = search held-cases

pub offset_bounds-vectors-pairs : goal.offset_bounds-vectors-pairs
offset_bounds-vectors-pairs c = search held-cases

pub bounds-vectors-pairs : goal.bounds-vectors-pairs
bounds-vectors-pairs c = search held-cases

pub overflow_add-vectors : goal.overflow_add-vectors
overflow_add-vectors c = search held-cases

pub offset_bounds-vectors-pairs-then-second-first : goal.offset_bounds-vectors-pairs-then-second-first
offset_bounds-vectors-pairs-then-second-first c = search held-cases

pub bounds-vectors-pairs-then-second-first : goal.bounds-vectors-pairs-then-second-first
bounds-vectors-pairs-then-second-first c = search held-cases

pub overflow_add-pairs : goal.overflow_add-pairs
overflow_add-pairs c = search held-cases

pub loop-second-preserved : goal.loop-second-preserved
loop-second-preserved c = search (held-skip, held-put, held-end, held-cases, rules)
