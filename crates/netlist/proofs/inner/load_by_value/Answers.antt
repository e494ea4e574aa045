-- `netlist::inner::load_by_value` meets its contract: what loading says of the arrays it says of their values.
use Rattle.model.proofs.AnswerLaws.{exit}
use Rattle.netlist.proofs.LoadCases.{survey-cases, load-refused, load-legal}
use Rattle.netlist.proofs.inner.load_by_value.Goals as goal

pub load-requires : goal.load-requires
load-requires c = search survey-cases

pub returns-in_err-legal : goal.returns-in_err-legal
returns-in_err-legal c = rw (exit _ _ c.from_residual.ensures.1) (load-refused _ _ _ _ c.load.ensures _ c.in_err-legal.was)

pub returns : goal.returns
returns c = load-legal _ _ _ _ c.load.ensures _ c.in_ok-legal.was
