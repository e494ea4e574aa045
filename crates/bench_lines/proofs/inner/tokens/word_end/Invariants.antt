-- `bench_lines::inner::tokens::word_end` meets its contract: the bytes passed belong to the word.
use Rattle.bench_lines.proofs.TokenLaws.{WordSoFar}
use Rattle.bench_lines.proofs.inner.tokens.word_end.Given as goal

abbrev pub invariant-loop-i : goal.invariant-loop-i
invariant-loop-i l = WordSoFar l.line l.at l.i
