-- `bench_lines::inner::tokens::next_token` meets its contract: each return is a case of the byte at hand.
use Rattle.model.proofs.Prelude.{rules, not-true, not-false}
use Rattle.bench_lines.proofs.TokenLaws.{token_end, token_sign, token_long, token_name}
use Rattle.bench_lines.proofs.inner.tokens.next_token.Goals as goal

pub returns-then-line-from : goal.returns-then-line-from
returns-then-line-from c = search (token_end, rules)

pub returns-then-not-named : goal.returns-then-not-named
returns-then-not-named c = search (token_sign, not-true, rules)

pub returns-then-to-from-gt16 : goal.returns-then-to-from-gt16
returns-then-to-from-gt16 c = search (token_long, not-false, rules)

pub returns : goal.returns
returns c = search (token_name, not-false, rules)
