-- `block_words::inner::words::gate_lists` meets its contract. The loop's invariant: the words of the nets before `net` are right, each record's lists have its live gates before
-- `net`, for every netlist whose table it is and every block of tests of the class, and what is past the words of 512 nets is kept.
use Rattle.model.proofs.Prelude.{refl, arith}
use Rattle.block_words.proofs.GateTableLaws.{few-nets}
use Rattle.block_words.proofs.GateListCases.{lists-start, gate-known, lists-step, lists-end}
use Rattle.block_words.proofs.inner.words.gate_lists.Goals as goal

pub loop-net-init : goal.loop-net-init
loop-net-init c = (lists-start c.requires.0 c.requires.1 c.requires.2 c.requires.3, refl, refl)

pub gate_at-gate-requires : goal.gate_at-gate-requires
gate_at-gate-requires c = omega (arith, few-nets c.requires.0, c.loop-net-test.true)

pub scan_pins-scan-requires : goal.scan_pins-scan-requires
scan_pins-scan-requires c =
    let k = gate-known c.requires.0 c.loop-net.invariant.0 c.loop-net-test.true c.gate_at-gate.ensures in
    (k.pins, k.words_room)

pub active_words-live-requires : goal.active_words-live-requires
active_words-live-requires c =
    let k = gate-known c.requires.0 c.loop-net.invariant.0 c.loop-net-test.true c.gate_at-gate.ensures in
    (k.pins, k.mask_is, k.high_kind, k.words_room, c.loop-net.invariant.1, c.loop-net.invariant.2)

pub push-requires : goal.push-requires
push-requires c =
    let k = gate-known c.requires.0 c.loop-net.invariant.0 c.loop-net-test.true c.gate_at-gate.ensures in
    (k.rising_room, k.is_net, k.pins.few)

pub push-requires-in-loop-net : goal.push-requires-in-loop-net
push-requires-in-loop-net c =
    let k = gate-known c.requires.0 c.loop-net.invariant.0 c.loop-net-test.true c.gate_at-gate.ensures in
    (k.falling_room, k.is_net, k.pins.few)

pub net_state-requires : goal.net_state-requires
net_state-requires c =
    let k = gate-known c.requires.0 c.loop-net.invariant.0 c.loop-net-test.true c.gate_at-gate.ensures in
    (k.low_kind, k.high_kind)

pub put_net-requires : goal.put_net-requires
put_net-requires c =
    let k = gate-known c.requires.0 c.loop-net.invariant.0 c.loop-net-test.true c.gate_at-gate.ensures in
    (k.is_net, k.words_room)

pub loop-net-preserved : goal.loop-net-preserved
loop-net-preserved c = (
  lists-step c.requires.0 c.loop-net.invariant.0 c.loop-net-test.true c.gate_at-gate.ensures c.scan_pins-scan.ensures
      c.active_words-live.ensures c.net_state.ensures c.put_net.ensures c.push.ensures c.push-in-loop-net.ensures,
  c.active_words-live.ensures.rises.room,
  c.active_words-live.ensures.falls.room,
)

pub shape_of-words : goal.shape_of-words
shape_of-words c = c.loop-net.invariant.0.kept.same_length_of

pub shape_of-rising_lists : goal.shape_of-rising_lists
shape_of-rising_lists c = c.loop-net.invariant.0.up.places

pub shape_of-falling_lists : goal.shape_of-falling_lists
shape_of-falling_lists c = c.loop-net.invariant.0.down.places

pub returns : goal.returns
returns c = lists-end c.requires.0 c.loop-net.invariant.0 c.loop-net-test.false
