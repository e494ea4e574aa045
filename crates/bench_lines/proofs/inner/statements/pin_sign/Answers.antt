-- `bench_lines::inner::statements::pin_sign` meets its contract: by the sign after the name.
use Rattle.model.proofs.Prelude.{rules, not-true, not-false}
use Rattle.bench_lines.proofs.StatementLaws.{pin-cut, pin-names, pin-comma, pin-bad, pin-goes-on, pin-last}
use Rattle.bench_lines.proofs.inner.statements.pin_sign.Goals as goal

pub returns-then-byte-eq44 : goal.returns-then-byte-eq44
returns-then-byte-eq44 c = search (pin-comma, rules)

pub returns-then-byte-ne41 : goal.returns-then-byte-ne41
returns-then-byte-ne41 c = search (pin-cut, pin-names, pin-bad, pin-goes-on, rules)

pub returns-then-not-ended : goal.returns-then-not-ended
returns-then-not-ended c = search (pin-cut, pin-names, pin-bad, pin-goes-on, not-true, rules)

pub returns-in-End : goal.returns-in-End
returns-in-End c = search (pin-cut, pin-names, pin-bad, pin-goes-on, rules)

pub returns-in-Name : goal.returns-in-Name
returns-in-Name c = search (pin-cut, pin-names, pin-bad, pin-goes-on, rules)

pub returns-else-not-ended : goal.returns-else-not-ended
returns-else-not-ended c = search (pin-last, not-false, rules)
