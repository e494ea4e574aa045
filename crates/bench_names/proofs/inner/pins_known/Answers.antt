-- `bench_names::inner::pins_known` meets its contract: the pins so far are looked up, those that are left are to be.
use Rattle.model.proofs.Prelude.{◌-◌, rules}
use Rattle.bench_names.proofs.NameNetLaws.{known_start, known-inside, known-end, known-stop, known-again}
use Rattle.bench_lines.proofs.PinWalkLaws.{pin-name, pin-less}
use Rattle.bench_names.proofs.inner.pins_known.Goals as goal

pub loop-more-init : goal.loop-more-init
loop-more-init c = search (known_start, rules)

pub read_pin-pin-requires : goal.read_pin-pin-requires
read_pin-pin-requires c = search (known-inside, rules)

pub returns-in-None : goal.returns-in-None
returns-in-None c = search (known-stop, rules)

pub net_at-net-requires : goal.net_at-net-requires
net_at-net-requires c = search (pin-name, rules)

pub loop-more-smaller : goal.loop-more-smaller
loop-more-smaller c = search (pin-less, rules)

pub loop-more-preserved : goal.loop-more-preserved
loop-more-preserved c = search (known-again, rules)

pub returns : goal.returns
returns c = search (known-end, rules)
