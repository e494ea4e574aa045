-- `single_simulation::inner::packing::pack_states` meets its contract. The loop's invariant: the pins from k on are packed, pin k in the lowest bit.
use Rattle.model.proofs.Prelude.{sym, subst, arith, rules}
use Rattle.single_simulation.specs.StateWords.{StatesAt, PacksStates}
use Rattle.single_simulation.proofs.PackStates.{states-start, states-room, states-step, states-done, states-inside, states-net, states-fit}
use Rattle.single_simulation.proofs.inner.packing.pack_states.Goals as goal

pub pack_two-requires : goal.pack_two-requires
pack_two-requires c =
    subst (λ n. StatesAt c.args.part.now n c.args.states.now) c.if-pins-eq2.true c.requires

pub returns-then-pins-eq2 : goal.returns-then-pins-eq2
returns-then-pins-eq2 c =
    subst (λ n. PacksStates c.args.part.now n c.args.states.now c.pack_two.result) (sym c.if-pins-eq2.true) c.pack_two.ensures

pub loop-k-init : goal.loop-k-init
loop-k-init c = states-start c.requires

pub pin_net-net-requires : goal.pin_net-net-requires
pin_net-net-requires c = states-inside c.requires c.loop-k.invariant c.loop-k-test.true

pub overflow_mul-packed : goal.overflow_mul-packed
overflow_mul-packed c =
    omega (arith, states-room c.requires c.loop-k.invariant c.loop-k-test.true)

pub offset_bounds-states-net : goal.offset_bounds-states-net
offset_bounds-states-net c =
    omega (arith, states-net c.requires c.loop-k.invariant c.loop-k-test.true c.pin_net-net.ensures)

pub bounds-states-net : goal.bounds-states-net
bounds-states-net c =
    states-net c.requires c.loop-k.invariant c.loop-k-test.true c.pin_net-net.ensures

pub overflow_add-packed : goal.overflow_add-packed
overflow_add-packed c =
    omega (arith, states-fit c.requires c.loop-k.invariant c.loop-k-test.true c.pin_net-net.result)

pub loop-k-preserved : goal.loop-k-preserved
loop-k-preserved c =
    states-step c.requires c.loop-k.invariant c.loop-k-test.true c.pin_net-net.ensures

pub returns : goal.returns
returns c = states-done c.requires c.loop-k.invariant (search rules)
