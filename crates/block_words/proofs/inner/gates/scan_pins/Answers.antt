-- `block_words::inner::gates::scan_pins` meets its contract. The loop's invariant: the words say what the pins from k on show.
use Rattle.model.proofs.Prelude.{rules}
use Rattle.block_words.proofs.ScanPinsCases.{scan_pins-start, scan_pins-step, scan_pins-end}
use Rattle.block_words.proofs.inner.gates.scan_pins.Goals as goal

pub loop-k-init : goal.loop-k-init
loop-k-init c = scan_pins-start

pub loop-k-preserved : goal.loop-k-preserved
loop-k-preserved c = search (scan_pins-step, rules)

pub returns : goal.returns
returns c = scan_pins-end c.loop-k.invariant c.loop-k-test.false
