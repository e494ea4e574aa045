-- `block_detection::inner::active_word` meets its contract: what the gate's pins show, at one pin.
use Rattle.block_detection.proofs.ActiveLaws.{there-cases}
use Rattle.block_detection.proofs.inner.active_word.Goals as goal

pub gate_at-gate-requires : goal.gate_at-gate-requires
gate_at-gate-requires c = search there-cases

pub scan_pins-scan-requires : goal.scan_pins-scan-requires
scan_pins-scan-requires c = search there-cases

pub active_words-requires : goal.active_words-requires
active_words-requires c = search there-cases

pub offset_bounds-rising_rows-pin : goal.offset_bounds-rising_rows-pin
offset_bounds-rising_rows-pin c = search there-cases

pub bounds-rising_rows-pin : goal.bounds-rising_rows-pin
bounds-rising_rows-pin c = search there-cases

pub offset_bounds-falling_rows-pin : goal.offset_bounds-falling_rows-pin
offset_bounds-falling_rows-pin c = search there-cases

pub bounds-falling_rows-pin : goal.bounds-falling_rows-pin
bounds-falling_rows-pin c = search there-cases

pub returns-in-Rising : goal.returns-in-Rising
returns-in-Rising c = search there-cases

pub returns-in-Falling : goal.returns-in-Falling
returns-in-Falling c = search there-cases
