-- `path_lines::nets::put_kind` meets its contract, kind by kind.
use Rattle.path_lines.proofs.PartCases.{kind-cases}
use Rattle.path_lines.proofs.nets.put_kind.Goals as goal

pub returns-in-1 : goal.returns-in-1
returns-in-1 c = search kind-cases

pub returns-in-2 : goal.returns-in-2
returns-in-2 c = search kind-cases

pub returns-in-3 : goal.returns-in-3
returns-in-3 c = search kind-cases

pub returns-in-4 : goal.returns-in-4
returns-in-4 c = search kind-cases

pub returns-in-5 : goal.returns-in-5
returns-in-5 c = search kind-cases

pub returns-in-6 : goal.returns-in-6
returns-in-6 c = search kind-cases

pub returns-in-7 : goal.returns-in-7
returns-in-7 c = search kind-cases

pub returns-in_default : goal.returns-in_default
returns-in_default c = search kind-cases
