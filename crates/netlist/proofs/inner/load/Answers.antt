-- `netlist::inner::load` meets its contract: a refused header refuses the netlist, a header that was found leaves the body to answer.
use Rattle.model.proofs.AnswerLaws.{exit}
use Rattle.netlist.proofs.LoadCases.{load-header, load_found}
use Rattle.netlist.proofs.inner.load.Goals as goal

pub returns-in_err-header : goal.returns-in_err-header
returns-in_err-header c = rw (exit _ _ c.from_residual.ensures.1) (load-header _ _ c.read_header.ensures _ c.in_err-header.was)

pub load_body-requires : goal.load_body-requires
load_body-requires c = (load_found _ _ c.read_header.ensures _ c.in_ok-header.was, c.requires.0, c.requires.1)
