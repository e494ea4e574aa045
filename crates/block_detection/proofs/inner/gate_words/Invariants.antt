-- `block_detection::inner::gate_words` meets its contract: the words of the nets before the one at hand are right.
use Rattle.model.proofs.Prelude.{◌-◌, ◌≡◌, length}
use Rattle.block_detection.proofs.GateWordCases.{Stating}
use Rattle.block_detection.proofs.inner.gate_words.Given as goal

abbrev pub invariant-loop-net : goal.invariant-loop-net
invariant-loop-net l =
    Stating l.table l.fn.shape l.class l.initial.words l.words l.net × (length l.rising_rows ≡ 8) × (length l.falling_rows ≡ 8)
