-- `netlist::header::read_header` meets its contract: each return is a case of the header, by its mark and its numbers.
use Rattle.netlist.proofs.HeaderCases.{header-cases}
use Rattle.netlist.proofs.header.read_header.Goals as goal

pub returns-then-not-marked : goal.returns-then-not-marked
returns-then-not-marked c = search header-cases

pub u16_at-inputs-requires : goal.u16_at-inputs-requires
u16_at-inputs-requires c = search header-cases

pub u16_at-gates-requires : goal.u16_at-gates-requires
u16_at-gates-requires c = search header-cases

pub u16_at-outputs-requires : goal.u16_at-outputs-requires
u16_at-outputs-requires c = search header-cases

pub returns-then-fits : goal.returns-then-fits
returns-then-fits c = search header-cases

pub returns-else-fits : goal.returns-else-fits
returns-else-fits c = search header-cases
