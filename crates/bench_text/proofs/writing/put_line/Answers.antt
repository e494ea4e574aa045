-- `bench_text::writing::put_line` meets its contract: by its statement.
use Rattle.model.proofs.Prelude.{rules}
use Rattle.bench_text.proofs.WriteLaws.{line-put-blank, line-put-other, line-put-input, line-put-output, line-pins-there, line-kind, line-few, line-room, line-twice, line-fits}
use Rattle.bench_text.proofs.WriteLaws.{line-put-gate}
use Rattle.bench_text.proofs.writing.put_line.Goals as goal

pub put_gate-requires : goal.put_gate-requires
put_gate-requires c = search (line-pins-there, line-room, line-kind, line-few, rules)

pub overflow_add-result : goal.overflow_add-result
overflow_add-result c = search (line-room, rules)

pub overflow_mul-result : goal.overflow_mul-result
overflow_mul-result c = search (line-twice, rules)

pub overflow_add-result-in-Gate : goal.overflow_add-result-in-Gate
overflow_add-result-in-Gate c = search (line-fits, rules)

pub returns-in-Blank : goal.returns-in-Blank
returns-in-Blank c = search (line-put-blank, line-put-other, line-put-input, line-put-output, rules)

pub returns-in-Other : goal.returns-in-Other
returns-in-Other c = search (line-put-blank, line-put-other, line-put-input, line-put-output, rules)

pub returns-in-Input : goal.returns-in-Input
returns-in-Input c = search (line-put-blank, line-put-other, line-put-input, line-put-output, rules)

pub returns-in-Output : goal.returns-in-Output
returns-in-Output c = search (line-put-blank, line-put-other, line-put-input, line-put-output, rules)

pub returns-in-Gate : goal.returns-in-Gate
returns-in-Gate c = search (line-put-gate, rules)
