-- `bench_lines::inner::tokens::word_end` meets its contract: the bytes passed belong to the word.
use Rattle.model.proofs.Prelude.{rules, not-true, not-false}
use Rattle.bench_lines.proofs.TokenLaws.{word-start, word_more, word-stop, word-last}
use Rattle.bench_lines.proofs.inner.tokens.word_end.Goals as goal

pub loop-i-init : goal.loop-i-init
loop-i-init c = search (word-start, rules)

pub returns-then-not-named : goal.returns-then-not-named
returns-then-not-named c = search (word-stop, not-true, rules)

pub loop-i-preserved : goal.loop-i-preserved
loop-i-preserved c = search (word_more, not-false, rules)

pub returns : goal.returns
returns c = word-last _ _ _ c.loop-i.invariant c.loop-i-test.false
