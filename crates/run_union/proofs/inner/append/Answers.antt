-- `run_union::inner::append` meets its contract: a run that overlaps the last one or is adjacent is joined to it, any other is placed behind it.
use Rattle.model.proofs.Prelude.{rules}
use Rattle.run_union.proofs.AppendCases.{append_first, append_joined, append_apart}
use Rattle.run_union.proofs.inner.append.Goals as goal

pub returns-then-count-eq0 : goal.returns-then-count-eq0
returns-then-count-eq0 c = search (append_first, rules)

pub returns-then-low-last : goal.returns-then-low-last
returns-then-low-last c = search (append_joined, rules)

pub returns : goal.returns
returns c = search (append_apart, rules)
