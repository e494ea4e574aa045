-- `run_shifted::inner::gates::gate_runs` meets its contract: the list holds the runs of the pins so far.
use Rattle.model.proofs.Prelude.{◌-◌, rules}
use Rattle.run_shifted.proofs.PlaceRunSteps.{place-cases, places-room, places-small, place-net, place-below, place-more}
use Rattle.run_shifted.proofs.inner.gates.gate_runs.Goals as goal

pub bounds-part-3 : goal.bounds-part-3
bounds-part-3 c = search place-cases

pub wide-pins-requires : goal.wide-pins-requires
wide-pins-requires c = search place-cases

pub loop-pin-init : goal.loop-pin-init
loop-pin-init c = (search place-cases, search rules)

pub pin_net-net-requires : goal.pin_net-net-requires
pin_net-net-requires c = search place-cases

pub digit-requires : goal.digit-requires
digit-requires c = search place-cases

pub overflow_sub-start : goal.overflow_sub-start
overflow_sub-start c = search place-cases

pub returns-in_err-count : goal.returns-in_err-count
returns-in_err-count c = rw c.from_residual.ensures (search (c.in_err-count.was, place-cases))

pub bounds-counts-net : goal.bounds-counts-net
bounds-counts-net c = search place-cases

pub overflow_add-offset : goal.overflow_add-offset
overflow_add-offset c = search place-cases

pub shape_of-words : goal.shape_of-words
shape_of-words c = search place-cases

pub returns : goal.returns
returns c = search place-cases

pub add_net-requires-clause-net_ready : goal.add_net-requires-clause-net_ready
add_net-requires-clause-net_ready c = search (place-cases, places-room, places-small, place-net, place-below, place-more, rules)

pub loop-pin-preserved : goal.loop-pin-preserved
loop-pin-preserved c = search (c.in_ok-count.was, place-cases, places-room, places-small, place-net, place-below, place-more, rules)
