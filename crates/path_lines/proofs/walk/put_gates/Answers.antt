-- `path_lines::walk::put_gates` meets its contract: what is put so far, with the lines of the gates that are left, is the whole.
use Rattle.path_lines.proofs.WalkCases.{walk-cases, walk-place, walk-room, walk-kind-low, walk-kind-high}
use Rattle.path_lines.proofs.walk.put_gates.Goals as goal

pub loop-net-init : goal.loop-net-init
loop-net-init c = search walk-cases

pub gate_part-part-requires : goal.gate_part-part-requires
gate_part-part-requires c = search walk-cases

pub bounds-words-k : goal.bounds-words-k
bounds-words-k c = search walk-cases

pub bounds-part-3 : goal.bounds-part-3
bounds-part-3 c = search walk-cases

pub shape_of-out-then-wide-pin : goal.shape_of-out-then-wide-pin
shape_of-out-then-wide-pin c = search walk-cases

pub returns-then-wide-pin : goal.returns-then-wide-pin
returns-then-wide-pin c = search walk-cases

pub put_gate-place-requires : goal.put_gate-place-requires
put_gate-place-requires c =
    let room = walk-room _ _ _ _ _ _ _ _ _ _ _ _ c.loop-net.invariant c.loop-net-test.true _ c.gate_part-part.ensures _ _ c.wide.ensures.0 c.if-wide-pin.false in
    record {
      at_in_bounds = walk-place _ _ _ _ _ _ _ _ _ _ _ _ c.loop-net.invariant;
      pin_in_bounds = room;
      bound = (
        walk-kind-low _ _ _ _ _ _ _ _ _ _ _ _ c.loop-net.invariant c.loop-net-test.true _ c.gate_part-part.ensures,
        walk-kind-high _ _ _ _ _ _ _ _ _ _ _ _ c.loop-net.invariant c.loop-net-test.true _ c.gate_part-part.ensures,
      );
    }

pub pin_net-net-requires : goal.pin_net-net-requires
pin_net-net-requires c =
    walk-room _ _ _ _ _ _ _ _ _ _ _ _ c.loop-net.invariant c.loop-net-test.true _ c.gate_part-part.ensures _ _ c.wide.ensures.0 c.if-wide-pin.false

pub loop-net-smaller : goal.loop-net-smaller
loop-net-smaller c = search walk-cases

pub loop-net-preserved : goal.loop-net-preserved
loop-net-preserved c = search walk-cases

pub put_input-requires : goal.put_input-requires
put_input-requires c = search walk-cases

pub shape_of-out : goal.shape_of-out
shape_of-out c = search walk-cases

pub returns : goal.returns
returns c = search walk-cases
