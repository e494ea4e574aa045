-- `path_of_number::number_to_path` meets its contract: each return is a case of the buffer, the netlist and the number.
use Rattle.model.proofs.AnswerLaws.{exit}
use Rattle.path_of_number.proofs.PathCallCases.{number-to-path-cases}
use Rattle.path_of_number.proofs.number_to_path.Goals as goal

pub returns-then-path-lt-PATH_WORDS : goal.returns-then-path-lt-PATH_WORDS
returns-then-path-lt-PATH_WORDS c = search number-to-path-cases

pub load-requires : goal.load-requires
load-requires c = search number-to-path-cases

pub returns-then-wanted-lt1 : goal.returns-then-wanted-lt1
returns-then-wanted-lt1 c = search (c.in_ok-legal.was, number-to-path-cases)

pub returns-then-legal-wanted : goal.returns-then-legal-wanted
returns-then-legal-wanted c = search (c.in_ok-legal.was, number-to-path-cases)

pub write_path-requires : goal.write_path-requires
write_path-requires c = search (c.in_ok-legal.was, number-to-path-cases)

pub returns-in_err-legal : goal.returns-in_err-legal
returns-in_err-legal c = rw (exit _ _ c.from_residual.ensures.1) (search (c.in_err-legal.was, number-to-path-cases))

pub returns : goal.returns
returns c = search (c.in_ok-legal.was, number-to-path-cases)
