-- `ask_text::inner::answer_lines::visit_fault` meets its contract: the tree of the edge is asked for the path number.
use Rattle.ask_text.proofs.AskedFaultCases.{fault-cases}
use Rattle.ask_text.proofs.inner.answer_lines.visit_fault.Goals as goal

pub returns-in-Rising : goal.returns-in-Rising
returns-in-Rising c = search fault-cases

pub returns-in-Falling : goal.returns-in-Falling
returns-in-Falling c = search fault-cases
