-- `bench_lines::inner::lines::line_end` meets its contract: the bytes passed belong to the line.
use Rattle.model.proofs.Prelude.{rules}
use Rattle.bench_lines.proofs.TextLineLaws.{line-start, line-more, line-ends, line-last}
use Rattle.bench_lines.proofs.inner.lines.line_end.Goals as goal

pub loop-i-init : goal.loop-i-init
loop-i-init c = search (line-start, rules)

pub returns-then-text-i-eq10 : goal.returns-then-text-i-eq10
returns-then-text-i-eq10 c = search (line-ends, rules)

pub loop-i-preserved : goal.loop-i-preserved
loop-i-preserved c = search (line-more, rules)

pub returns : goal.returns
returns c = line-last _ _ _ c.loop-i.invariant c.loop-i-test.false
