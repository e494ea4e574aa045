-- `bench_circuit::inner::ending::check_end` meets its contract: rule by rule.
use Rattle.model.proofs.Prelude.{rules, not-true, not-false}
use Rattle.bench_circuit.proofs.TextEndCases.{end-room, end-outs, end-unknown, end-no-input, end-no-output, end-sound}
use Rattle.bench_circuit.proofs.inner.ending.check_end.Goals as goal

pub outputs_known-known-requires : goal.outputs_known-known-requires
outputs_known-known-requires c = search (end-room, end-outs, rules)

pub undefined_line-line-requires : goal.undefined_line-line-requires
undefined_line-line-requires c = search (end-room, rules)

pub returns-then-not-known : goal.returns-then-not-known
returns-then-not-known c = search (end-unknown, not-true, rules)

pub returns-then-i-lt1 : goal.returns-then-i-lt1
returns-then-i-lt1 c = search (end-no-input, not-false, rules)

pub returns-then-o-lt1 : goal.returns-then-o-lt1
returns-then-o-lt1 c = search (end-no-output, not-false, rules)

pub returns : goal.returns
returns c = search (end-sound, not-false, rules)
