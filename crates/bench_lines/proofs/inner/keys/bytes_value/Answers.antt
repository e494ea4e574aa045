-- `bench_lines::inner::keys::bytes_value` meets its contract: the bytes passed, from the last on, have the value so far.
use Rattle.model.proofs.Prelude.{◌-◌, arith, rules}
use Rattle.bench_lines.proofs.ValueLaws.{value-start, value-more, value-times, value-plus, value-end}
use Rattle.bench_lines.proofs.inner.keys.bytes_value.Goals as goal

pub loop-at-init : goal.loop-at-init
loop-at-init c = search (value-start, rules)

pub overflow_cast-byte : goal.overflow_cast-byte
overflow_cast-byte c = omega (arith, c.shared_slice_known-1.given (c.loop-at.at - 1))

pub overflow_mul-value : goal.overflow_mul-value
overflow_mul-value c = search (value-times, rules)

pub overflow_add-value : goal.overflow_add-value
overflow_add-value c = search (value-plus, rules)

pub loop-at-preserved : goal.loop-at-preserved
loop-at-preserved c = search (value-more, rules)

pub returns : goal.returns
returns c = search (value-end, rules)
