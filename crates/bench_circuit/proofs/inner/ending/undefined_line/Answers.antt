-- `bench_circuit::inner::ending::undefined_line` meets its contract: the lines that are left give the first line.
use Rattle.model.proofs.Prelude.{rules, not-true, not-false}
use Rattle.bench_circuit.proofs.EndLaws.{undefined_start, undefined_none, undefined_found, undefined_again}
use Rattle.bench_lines.proofs.TextLineLaws.{line_low, line-stop-in, line-less, line-counted}
use Rattle.bench_circuit.proofs.inner.ending.undefined_line.Goals as goal

pub loop-at-init : goal.loop-at-init
loop-at-init c = (search (undefined_start, rules), search rules)

pub slice_bounds-line-count : goal.slice_bounds-line-count
slice_bounds-line-count c = search (line_low, rules)

pub slice_bounds-line-start : goal.slice_bounds-line-start
slice_bounds-line-start c = search (line_low, line-stop-in, rules)

pub slice_bounds-line-end : goal.slice_bounds-line-end
slice_bounds-line-end c = search (line_low, line-stop-in, rules)

pub returns-then-not-defined : goal.returns-then-not-defined
returns-then-not-defined c = search (undefined_found, not-true, rules)

pub loop-at-smaller : goal.loop-at-smaller
loop-at-smaller c = search (line-less, rules)

pub loop-at-preserved : goal.loop-at-preserved
loop-at-preserved c = (search (undefined_again, not-false, rules), search (line-counted, rules))

pub returns : goal.returns
returns c = search (undefined_none, rules)
