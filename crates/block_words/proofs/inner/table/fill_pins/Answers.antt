-- `block_words::inner::table::fill_pins` meets its contract. The loop's invariant: the nets at the pins from k on stand in the table.
use Rattle.model.proofs.Prelude.{◌-◌, arith}
use Rattle.block_words.proofs.WordLaws.{fill_start, fill_step, fill_end}
use Rattle.block_words.proofs.inner.table.fill_pins.Goals as goal

pub loop-k-init : goal.loop-k-init
loop-k-init c = fill_start _ _ _ _

pub pin_net-requires : goal.pin_net-requires
pin_net-requires c = omega (arith, c.loop-k.invariant.within, c.loop-k-test.true, c.requires.0.inside)

pub overflow_cast-table : goal.overflow_cast-table
overflow_cast-table c =
    omega (arith, c.pin_net.ensures, c.requires.0.is_net (c.loop-k.k - 1) (omega (arith, c.loop-k.invariant.within, c.loop-k-test.true)))

pub overflow_add-table : goal.overflow_add-table
overflow_add-table c =
    omega (arith, c.loop-k.invariant.within, c.loop-k-test.true, c.requires.0.few, c.requires.1)

pub offset_bounds-table-first : goal.offset_bounds-table-first
offset_bounds-table-first c =
    omega (arith, c.loop-k.invariant.within, c.loop-k-test.true, c.requires.0.few, c.requires.1)

pub bounds-table-first : goal.bounds-table-first
bounds-table-first c =
    omega (arith, c.loop-k.invariant.within, c.loop-k-test.true, c.requires.0.few, c.requires.1)

pub loop-k-preserved : goal.loop-k-preserved
loop-k-preserved c =
    fill_step c.loop-k.invariant c.loop-k-test.true (omega (arith, c.requires.0.few, c.requires.1, c.requires.2)) _ c.pin_net.ensures

pub returns : goal.returns
returns c = fill_end c.loop-k.invariant c.loop-k-test.false
