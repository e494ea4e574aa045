-- `netlist::survey` meets its contract: the survey is made of the tables of a legal netlist.
use Rattle.model.proofs.AnswerLaws.{exit}
use Rattle.netlist.proofs.LoadCases.{survey-cases, survey-refused}
use Rattle.netlist.proofs.survey.Goals as goal

pub load-requires : goal.load-requires
load-requires c = search survey-cases

pub returns-in_err-legal : goal.returns-in_err-legal
returns-in_err-legal c = rw (exit _ _ c.from_residual.ensures.1) (survey-refused _ _ _ _ c.load.ensures _ c.in_err-legal.was)

pub returns : goal.returns
returns c = search (c.in_ok-legal.was, survey-cases)
