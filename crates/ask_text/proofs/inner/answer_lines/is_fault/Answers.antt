-- `ask_text::inner::answer_lines::is_fault` meets its contract: 0 is no fault; else the test against 2T decides.
use Rattle.ask_text.proofs.AskedFaultCases.{fault-cases}
use Rattle.ask_text.proofs.inner.answer_lines.is_fault.Goals as goal

pub returns-then-fault-lt1 : goal.returns-then-fault-lt1
returns-then-fault-lt1 c = search fault-cases

pub returns : goal.returns
returns c = search fault-cases
