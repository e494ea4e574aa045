-- `bench_lines::inner::tokens::skip_spaces` meets its contract: the bytes passed are spaces.
use Rattle.bench_lines.proofs.TokenLaws.{SpacesSoFar}
use Rattle.bench_lines.proofs.inner.tokens.skip_spaces.Given as goal

abbrev pub invariant-loop-i : goal.invariant-loop-i
invariant-loop-i l = SpacesSoFar l.line l.at l.i
