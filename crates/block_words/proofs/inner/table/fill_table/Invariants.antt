-- `block_words::inner::table::fill_table` meets its contract. The loop's invariant: the rows of the nets before `net` are filled, for every netlist that the bytes are.
use Rattle.model.proofs.Prelude.{◌-◌}
use Rattle.block_words.proofs.GateTableLaws.{Tabling}
use Rattle.block_words.proofs.inner.table.fill_table.Given as goal

abbrev pub invariant-loop-net : goal.invariant-loop-net
invariant-loop-net l = Tabling l.netlist l.positions l.fn.shape l.table l.net
