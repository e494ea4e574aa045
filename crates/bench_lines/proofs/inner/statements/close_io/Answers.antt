-- `bench_lines::inner::statements::close_io` meets its contract: by the sign after the name.
use Rattle.model.proofs.Prelude.{rules, not-true, not-false}
use Rattle.bench_lines.proofs.StateCases.{io_cut, io_names_lem, io_bad, io_goes-on, io_input, io_output, io_neither}
use Rattle.bench_lines.proofs.inner.statements.close_io.Goals as goal

pub returns-then-byte-ne41 : goal.returns-then-byte-ne41
returns-then-byte-ne41 c = search (io_cut, io_names_lem, io_bad, io_goes-on, io_neither, rules)

pub returns-then-not-ended : goal.returns-then-not-ended
returns-then-not-ended c = search (io_cut, io_names_lem, io_bad, io_goes-on, io_neither, not-true, rules)

pub returns-then-io-eq0 : goal.returns-then-io-eq0
returns-then-io-eq0 c = search (io_input, not-false, rules)

pub returns-then-io-eq1 : goal.returns-then-io-eq1
returns-then-io-eq1 c = search (io_output, not-false, rules)

pub returns-in-End : goal.returns-in-End
returns-in-End c = search (io_cut, io_names_lem, io_bad, io_goes-on, io_neither, rules)

pub returns-in-Name : goal.returns-in-Name
returns-in-Name c = search (io_cut, io_names_lem, io_bad, io_goes-on, io_neither, rules)

pub returns-else-io-eq1 : goal.returns-else-io-eq1
returns-else-io-eq1 c = search (io_cut, io_names_lem, io_bad, io_goes-on, io_neither, not-true, not-false, rules)
