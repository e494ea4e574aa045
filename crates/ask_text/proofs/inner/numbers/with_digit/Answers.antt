-- `ask_text::inner::numbers::with_digit` meets its contract: ten times the number and the digit, where both steps stay within 64 bits.
use Rattle.ask_text.proofs.LineNumberCases.{number-cases}
use Rattle.ask_text.proofs.inner.numbers.with_digit.Goals as goal

pub returns-then-number-gt-MOST_TENTH : goal.returns-then-number-gt-MOST_TENTH
returns-then-number-gt-MOST_TENTH c = search number-cases

pub returns-then-tens-digit : goal.returns-then-tens-digit
returns-then-tens-digit c = search number-cases

pub returns : goal.returns
returns c = search number-cases
