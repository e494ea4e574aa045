-- `detection_fault::test_detects` meets its contract: the netlist is refused, or its tables are asked.
use Rattle.model.proofs.AnswerLaws.{exit}
use Rattle.detection_fault.proofs.DetectionCases.{call-cases}
use Rattle.detection_fault.proofs.test_detects.Goals as goal

pub load-requires : goal.load-requires
load-requires c = search call-cases

pub detects_on-requires : goal.detects_on-requires
detects_on-requires c = search (c.in_ok-legal.was, call-cases)

pub returns-in_err-legal : goal.returns-in_err-legal
returns-in_err-legal c = rw (exit _ _ c.from_residual.ensures.1) (search (c.in_err-legal.was, call-cases))

pub returns : goal.returns
returns c = search (c.in_ok-legal.was, call-cases)
