-- `ask_text::inner::numbers::byte_after` meets its contract: a byte that is no digit, and a digit by what the line states so far.
use Rattle.ask_text.proofs.LineNumberCases.{number-cases}
use Rattle.ask_text.proofs.inner.numbers.byte_after.Goals as goal

pub returns-then-byte-lt48 : goal.returns-then-byte-lt48
returns-then-byte-lt48 c = search number-cases

pub returns-then-byte-gt57 : goal.returns-then-byte-gt57
returns-then-byte-gt57 c = search number-cases

pub returns-in-Nothing : goal.returns-in-Nothing
returns-in-Nothing c = search number-cases

pub returns-in-Number : goal.returns-in-Number
returns-in-Number c = search number-cases

pub returns-in-Wrong : goal.returns-in-Wrong
returns-in-Wrong c = search number-cases
