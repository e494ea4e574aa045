-- `bench_lines::inner::statements::read_pins` meets its contract: the pins so far, with those that are left, are the whole.
use Rattle.model.proofs.Prelude.{rules}
use Rattle.bench_lines.proofs.StatementLaws.{pins-start, pins-stop, pins-again, pins-end, pins-count, pins-less}
use Rattle.bench_lines.proofs.inner.statements.read_pins.Goals as goal

pub loop-more-init : goal.loop-more-init
loop-more-init c = search (pins-start, rules)

pub returns-in-None : goal.returns-in-None
returns-in-None c = search (pins-stop, rules)

pub overflow_add-pins : goal.overflow_add-pins
overflow_add-pins c = search (pins-count, rules)

pub loop-more-smaller : goal.loop-more-smaller
loop-more-smaller c = search (pins-less, rules)

pub loop-more-preserved : goal.loop-more-preserved
loop-more-preserved c = search (pins-again, rules)

pub returns : goal.returns
returns c = search (pins-end, rules)
