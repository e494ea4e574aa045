-- `netlist::inner::load_body` meets its contract: the netlist is read as its gates, its outputs and the bytes left over were.
use Rattle.model.proofs.AnswerLaws.{exit}
use Rattle.netlist.proofs.LoadCases.{body-cases, body-gates, body-outputs}
use Rattle.netlist.proofs.inner.load_body.Goals as goal

pub read_outputs-requires : goal.read_outputs-requires
read_outputs-requires c = search (c.in_ok-at.was, body-cases)

pub returns-in_err-at : goal.returns-in_err-at
returns-in_err-at c = rw (exit _ _ c.from_residual.ensures.1) (body-gates _ _ _ _ _ _ c.requires.0 _ c.read_gates.ensures _ c.in_err-at.was)

pub returns-in_err-last : goal.returns-in_err-last
returns-in_err-last c = rw (exit _ _ c.from_residual-in_err-last.ensures.1) (body-outputs _ _ _ _ _ _ c.requires.0 _ c.read_gates.ensures _ c.in_ok-at.was _ c.read_outputs.ensures _ c.in_err-last.was)

pub returns-then-last-netlist : goal.returns-then-last-netlist
returns-then-last-netlist c = search (c.in_ok-at.was, c.in_ok-last.was, body-cases)

pub returns : goal.returns
returns c = search (c.in_ok-at.was, c.in_ok-last.was, body-cases)
