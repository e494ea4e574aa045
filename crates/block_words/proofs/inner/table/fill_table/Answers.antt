-- `block_words::inner::table::fill_table` meets its contract. The loop's invariant: the rows of the nets before `net` are filled, for every netlist that the bytes are.
use Rattle.model.proofs.Prelude.{arith}
use Rattle.block_words.proofs.GateTableLaws.{table-end, table-cases}
use Rattle.block_words.proofs.inner.table.fill_table.Goals as goal

pub loop-net-init : goal.loop-net-init
loop-net-init c = search table-cases

pub gate_part-part-requires : goal.gate_part-part-requires
gate_part-part-requires c = search table-cases

pub bounds-part-2 : goal.bounds-part-2
bounds-part-2 c = search table-cases

pub bounds-part-3 : goal.bounds-part-3
bounds-part-3 c = search table-cases

pub overflow_cast-table : goal.overflow_cast-table
overflow_cast-table c = omega (arith, c.type_inv.part 2, c.type_inv.part 3)

pub overflow_cast-table-in-loop-net : goal.overflow_cast-table-in-loop-net
overflow_cast-table-in-loop-net c = omega (arith, c.type_inv.part 3)

pub fill_pins-requires : goal.fill_pins-requires
fill_pins-requires c = search table-cases

pub loop-net-preserved : goal.loop-net-preserved
loop-net-preserved c = search table-cases

pub returns : goal.returns
returns c = table-end c.requires.0 c.loop-net-test.false c.loop-net.invariant
