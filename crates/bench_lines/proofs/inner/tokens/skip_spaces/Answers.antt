-- `bench_lines::inner::tokens::skip_spaces` meets its contract: the bytes passed are spaces.
use Rattle.model.proofs.Prelude.{rules}
use Rattle.bench_lines.proofs.TokenLaws.{spaces_start, spaces_more, spaces_stop, spaces_last}
use Rattle.bench_lines.proofs.inner.tokens.skip_spaces.Goals as goal

pub loop-i-init : goal.loop-i-init
loop-i-init c = search (spaces_start, rules)

pub returns-then-line-i-ne32 : goal.returns-then-line-i-ne32
returns-then-line-i-ne32 c = search (spaces_stop, rules)

pub loop-i-preserved : goal.loop-i-preserved
loop-i-preserved c = search (spaces_more, rules)

pub returns : goal.returns
returns c = spaces_last _ _ _ c.loop-i.invariant c.loop-i-test.false
