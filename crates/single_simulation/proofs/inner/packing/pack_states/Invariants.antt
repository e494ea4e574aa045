-- `single_simulation::inner::packing::pack_states` meets its contract. The loop's invariant: the pins from k on are packed, pin k in the lowest bit.
use Rattle.single_simulation.proofs.PackStates.{PackingStates}
use Rattle.single_simulation.proofs.inner.packing.pack_states.Given as goal

abbrev pub invariant-loop-k : goal.invariant-loop-k
invariant-loop-k l = PackingStates l.part l.pins l.states l.packed l.k
