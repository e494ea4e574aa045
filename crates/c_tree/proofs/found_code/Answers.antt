-- `c_tree::found_code` meets its contract: what stands in the value is a run or nothing.
use Rattle.std.specs.Prelude.{◌≡◌, Some, None}
use Rattle.c_tree.proofs.TreeAnswerCases.{found-cases}
use Rattle.c_tree.proofs.found_code.Goals as goal

pub returns-in-Err : goal.returns-in-Err
returns-in-Err c = search found-cases

pub returns-in-Ok-Some : goal.returns-in-Ok-Some
returns-in-Ok-Some c = let f : c.in-Ok-Some.field-0 ≡ Some c.in-Ok-Some.run' = rw c.in-Ok-Some.is at c.in-Ok-Some.field-0-is in search found-cases

pub returns-in-Ok-None : goal.returns-in-Ok-None
returns-in-Ok-None c = let f : c.in-Ok-None.field-0 ≡ None = rw c.in-Ok-None.is at c.in-Ok-None.field-0-is in search found-cases
