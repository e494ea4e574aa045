-- `block_detection::inner::gate_words` meets its contract: the words of the nets before the one at hand are right.
use Rattle.model.proofs.Prelude.{refl, arith}
use Rattle.block_words.proofs.GateTableLaws.{few-nets, gate-pins, low-kind, high-kind}
use Rattle.block_detection.proofs.GateWordCases.{words-start, words_step, words-end}
use Rattle.block_detection.proofs.inner.gate_words.Goals as goal

pub loop-net-init : goal.loop-net-init
loop-net-init c = (words-start c.requires.0, refl, refl)

pub gate_at-gate-requires : goal.gate_at-gate-requires
gate_at-gate-requires c = omega (arith, few-nets c.requires.0, c.loop-net-test.true)

pub scan_pins-scan-requires : goal.scan_pins-scan-requires
scan_pins-scan-requires c = (
  gate-pins c.requires.0 c.loop-net.invariant.0.from_inputs c.loop-net-test.true c.gate_at-gate.ensures,
  omega (arith, c.loop-net.invariant.0.kept.same_length_of, c.requires.1),
)

pub active_words-live-requires : goal.active_words-live-requires
active_words-live-requires c = (
  gate-pins c.requires.0 c.loop-net.invariant.0.from_inputs c.loop-net-test.true c.gate_at-gate.ensures,
  c.gate_at-gate.ensures.mask_is,
  high-kind c.requires.0 c.loop-net.invariant.0.from_inputs c.loop-net-test.true c.gate_at-gate.ensures,
  omega (arith, c.loop-net.invariant.0.kept.same_length_of, c.requires.1),
  c.loop-net.invariant.1,
  c.loop-net.invariant.2,
)

pub net_state-requires : goal.net_state-requires
net_state-requires c = (
  low-kind c.requires.0 c.loop-net.invariant.0.from_inputs c.loop-net-test.true c.gate_at-gate.ensures,
  high-kind c.requires.0 c.loop-net.invariant.0.from_inputs c.loop-net-test.true c.gate_at-gate.ensures,
)

pub put_net-requires : goal.put_net-requires
put_net-requires c =
    (omega (arith, few-nets c.requires.0, c.loop-net-test.true), omega (arith, c.loop-net.invariant.0.kept.same_length_of, c.requires.1))

pub loop-net-preserved : goal.loop-net-preserved
loop-net-preserved c = (
  words_step c.requires.0 c.loop-net.invariant.0 c.loop-net-test.true c.gate_at-gate.ensures c.scan_pins-scan.ensures c.active_words-live.ensures
      c.net_state.ensures c.put_net.ensures,
  c.active_words-live.ensures.rises.room,
  c.active_words-live.ensures.falls.room,
)

pub shape_of-words : goal.shape_of-words
shape_of-words c = c.loop-net.invariant.0.kept.same_length_of

pub returns : goal.returns
returns c = words-end c.requires.0 c.loop-net.invariant.0 c.loop-net-test.false
