-- `block_words::inner::table::fill_pins` meets its contract. The loop's invariant: the nets at the pins from k on stand in the table.
use Rattle.model.proofs.Prelude.{◌≡◌}
use Rattle.netlist.specs.Tables.{pin_in}
use Rattle.block_words.proofs.WordLaws.{Filling}
use Rattle.block_words.proofs.inner.table.fill_pins.Given as goal

abbrev pub invariant-loop-k : goal.invariant-loop-k
invariant-loop-k l = Filling l.first l.pins (λ p w. w ≡ pin_in l.part p) l.initial.table l.table l.k
