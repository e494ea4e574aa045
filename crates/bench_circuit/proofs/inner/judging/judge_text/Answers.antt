-- `bench_circuit::inner::judging::judge_text` meets its contract: the lines that are left, from the circuit so far, give the whole; so does the number of the first bad one.
use Rattle.model.proofs.Prelude.{rules}
use Rattle.bench_circuit.proofs.TextCases.{text-start, text-room, text-end, text-refused, text-again}
use Rattle.bench_lines.proofs.TextLineLaws.{line_low, line-stop-in, line-less, line-counted}
use Rattle.bench_circuit.proofs.inner.judging.judge_text.Goals as goal

pub loop-at-init : goal.loop-at-init
loop-at-init c = (search (text-start, rules), search rules)

pub slice_bounds-line-count : goal.slice_bounds-line-count
slice_bounds-line-count c = search (line_low, rules)

pub slice_bounds-line-start : goal.slice_bounds-line-start
slice_bounds-line-start c = search (line_low, line-stop-in, rules)

pub slice_bounds-line-end : goal.slice_bounds-line-end
slice_bounds-line-end c = search (line_low, line-stop-in, rules)

pub judge_line-answer-requires : goal.judge_line-answer-requires
judge_line-answer-requires c = search (text-room, rules)

pub returns-in-Err : goal.returns-in-Err
returns-in-Err c = search (text-refused, rules)

pub loop-at-smaller : goal.loop-at-smaller
loop-at-smaller c = search (line-less, rules)

pub loop-at-preserved : goal.loop-at-preserved
loop-at-preserved c = (search (text-again, rules), search (line-counted, rules))

pub returns : goal.returns
returns c = search (text-end, rules)
