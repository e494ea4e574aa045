-- `bench_circuit::inner::ending::output_defined` meets its contract: by its statement.
use Rattle.model.proofs.Prelude.{rules}
use Rattle.bench_circuit.proofs.EndLaws.{told-blank, told-other, told-input, told-gate, told-name, told-output}
use Rattle.bench_circuit.proofs.inner.ending.output_defined.Goals as goal

pub net_at-net-requires : goal.net_at-net-requires
net_at-net-requires c = search (told-name, rules)

pub returns-in-Blank : goal.returns-in-Blank
returns-in-Blank c = search (told-blank, told-other, told-input, told-gate, rules)

pub returns-in-Other : goal.returns-in-Other
returns-in-Other c = search (told-blank, told-other, told-input, told-gate, rules)

pub returns-in-Input : goal.returns-in-Input
returns-in-Input c = search (told-blank, told-other, told-input, told-gate, rules)

pub returns-in-Gate : goal.returns-in-Gate
returns-in-Gate c = search (told-blank, told-other, told-input, told-gate, rules)

pub returns-in-Output : goal.returns-in-Output
returns-in-Output c = search (told-output, rules)
