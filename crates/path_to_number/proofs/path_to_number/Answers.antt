-- `path_to_number::path_to_number` meets its contract: each return is a case of the netlist and of the number that was read.
use Rattle.model.proofs.AnswerLaws.{exit}
use Rattle.path_to_number.proofs.NumberCallCases.{path-to-number-cases}
use Rattle.path_to_number.proofs.path_to_number.Goals as goal

pub load-requires : goal.load-requires
load-requires c = search path-to-number-cases

pub read_path-number-requires : goal.read_path-number-requires
read_path-number-requires c = search (c.in_ok-legal.was, path-to-number-cases)

pub returns-then-number-eq0 : goal.returns-then-number-eq0
returns-then-number-eq0 c = search (c.in_ok-legal.was, path-to-number-cases)

pub returns-in_err-legal : goal.returns-in_err-legal
returns-in_err-legal c = rw (exit _ _ c.from_residual.ensures.1) (search (c.in_err-legal.was, path-to-number-cases))

pub returns : goal.returns
returns c = search (c.in_ok-legal.was, path-to-number-cases)
