-- `bench_lines::inner::lines::next_line` meets its contract: each return is a case of the line's end.
use Rattle.model.proofs.Prelude.{rules}
use Rattle.bench_lines.proofs.TextLineLaws.{line-to-end, line-empty, line-return, line_plain}
use Rattle.bench_lines.proofs.inner.lines.next_line.Goals as goal

pub returns-then-text-end : goal.returns-then-text-end
returns-then-text-end c = search (line-to-end, rules)

pub returns-then-end-at : goal.returns-then-end-at
returns-then-end-at c = search (line-empty, rules)

pub returns-then-text-end-eq13 : goal.returns-then-text-end-eq13
returns-then-text-end-eq13 c = search (line-return, rules)

pub returns : goal.returns
returns c = search (line_plain, rules)
