-- `bench_text::writing::put_pins` meets its contract: the pins so far are written, those that are left are to be.
use Rattle.model.proofs.Prelude.{◌-◌, rules}
use Rattle.bench_text.proofs.GateLaws.{put-start, put-inside, put-length, put-end, put-room, put-fits, put-stop, put-again}
use Rattle.bench_lines.proofs.PinWalkLaws.{pin-name, pin-less}
use Rattle.bench_text.proofs.writing.put_pins.Goals as goal

pub loop-more-init : goal.loop-more-init
loop-more-init c = search (put-start, rules)

pub read_pin-pin-requires : goal.read_pin-pin-requires
read_pin-pin-requires c = search (put-inside, rules)

pub shape_of-out-in-None : goal.shape_of-out-in-None
shape_of-out-in-None c = search (put-length, rules)

pub returns-in-None : goal.returns-in-None
returns-in-None c = search (put-stop, rules)

pub net_at-net-requires : goal.net_at-net-requires
net_at-net-requires c = search (pin-name, rules)

pub put-requires : goal.put-requires
put-requires c = search (put-room, rules)

pub overflow_add-write : goal.overflow_add-write
overflow_add-write c = search (put-fits, rules)

pub loop-more-smaller : goal.loop-more-smaller
loop-more-smaller c = search (pin-less, rules)

pub loop-more-preserved : goal.loop-more-preserved
loop-more-preserved c = search (put-again, rules)

pub shape_of-out : goal.shape_of-out
shape_of-out c = search (put-length, rules)

pub returns : goal.returns
returns c = search (put-end, rules)
