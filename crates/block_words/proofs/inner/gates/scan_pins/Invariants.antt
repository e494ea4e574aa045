-- `block_words::inner::gates::scan_pins` meets its contract. The loop's invariant: the words say what the pins from k on show.
use Rattle.block_words.proofs.ScanPinsCases.{ScannedFrom}
use Rattle.block_words.proofs.inner.gates.scan_pins.Given as goal

abbrev pub invariant-loop-k : goal.invariant-loop-k
invariant-loop-k l = ScannedFrom l.table l.gate l.words l.k l.first l.last l.unsteady l.steady_controlling
