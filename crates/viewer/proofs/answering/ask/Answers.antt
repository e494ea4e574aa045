-- `viewer::answering::ask` meets its contract: the range of the fault, then whose it is, then the search.
use Rattle.viewer.proofs.AskCases.{ask-cases}
use Rattle.viewer.proofs.answering.ask.Goals as goal

pub returns-then-number-lt1 : goal.returns-then-number-lt1
returns-then-number-lt1 c = search ask-cases

pub returns-then-paths-number : goal.returns-then-paths-number
returns-then-paths-number c = search ask-cases

pub contains-own-requires : goal.contains-own-requires
contains-own-requires c = search ask-cases

pub returns-then-not-own : goal.returns-then-not-own
returns-then-not-own c = search ask-cases

pub returns-then-held : goal.returns-then-held
returns-then-held c = search ask-cases

pub returns-else-held : goal.returns-else-held
returns-else-held c = search ask-cases
