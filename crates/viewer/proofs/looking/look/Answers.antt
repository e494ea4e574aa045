-- `viewer::looking::look` meets its contract: what the netlist refuses, then the rest on its tables.
use Rattle.model.proofs.AnswerLaws.{exit}
use Rattle.viewer.proofs.ViewerLookCases.{look-cases}
use Rattle.viewer.proofs.looking.look.Goals as goal

pub load-requires : goal.load-requires
load-requires c = search look-cases

pub look_on-requires : goal.look_on-requires
look_on-requires c = search (c.in_ok-legal.was, look-cases)

pub returns-in_err-legal : goal.returns-in_err-legal
returns-in_err-legal c = rw (exit _ _ c.from_residual.ensures.1) (search (c.in_err-legal.was, look-cases))
