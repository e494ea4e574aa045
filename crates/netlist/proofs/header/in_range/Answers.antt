-- `netlist::header::in_range` meets its contract: each return's tests are known.
use Rattle.record_bytes.proofs.Tests.{tests}
use Rattle.netlist.proofs.header.in_range.Goals as goal

pub returns-then-inputs-lt1 : goal.returns-then-inputs-lt1
returns-then-inputs-lt1 c = search tests

pub returns-then-inputs-gt64 : goal.returns-then-inputs-gt64
returns-then-inputs-gt64 c = search tests

pub returns-then-gates-gt511 : goal.returns-then-gates-gt511
returns-then-gates-gt511 c = search tests

pub returns-then-inputs-gates-gt512 : goal.returns-then-inputs-gates-gt512
returns-then-inputs-gates-gt512 c = search tests

pub returns-then-outputs-ge1 : goal.returns-then-outputs-ge1
returns-then-outputs-ge1 c = search tests

pub returns-else-outputs-ge1 : goal.returns-else-outputs-ge1
returns-else-outputs-ge1 c = search tests
