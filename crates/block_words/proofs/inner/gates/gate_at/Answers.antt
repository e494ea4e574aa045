-- `block_words::inner::gates::gate_at` meets its contract.
use Rattle.model.proofs.Prelude.{refl, arith}
use Rattle.block_words.proofs.inner.gates.gate_at.Goals as goal

pub overflow_add-kind : goal.overflow_add-kind
overflow_add-kind c = omega (arith, c.requires)

pub offset_bounds-table-net : goal.offset_bounds-table-net
offset_bounds-table-net c = omega (arith, c.requires)

pub bounds-table-net : goal.bounds-table-net
bounds-table-net c = omega (arith, c.requires)

pub overflow_add-net : goal.overflow_add-net
overflow_add-net c = omega (arith, c.requires)

pub offset_bounds-table-net-2 : goal.offset_bounds-table-net-2
offset_bounds-table-net-2 c = omega (arith, c.requires)

pub bounds-table-net-2 : goal.bounds-table-net-2
bounds-table-net-2 c = omega (arith, c.requires)

pub overflow_mul-result : goal.overflow_mul-result
overflow_mul-result c = omega (arith, c.requires)

pub returns : goal.returns
returns c = record { kind_is = refl; pins_are = c.wide_word-pins.ensures.0; first_is = refl; mask_is = c.mask_of_kind-noncontrolling_mask.ensures }
