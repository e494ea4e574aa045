-- `exhaust_undetected::inner::first_undetected` meets its contract: with what is left to list, the words and the number are the whole's.
use Rattle.model.proofs.Prelude.{◌≤◌, ◌<◌, ◌-◌, arith}
use Rattle.std.proofs.Math.Nat.{sub-add-eq}
use Rattle.exhaust_undetected.specs.Undetected.{most_listed}
use Rattle.exhaust_undetected.proofs.ListedCases.{List-cases}
use Rattle.exhaust_undetected.proofs.inner.first_undetected.Goals as goal

pub loop-count-init : goal.loop-count-init
loop-count-init c = search List-cases

pub returns-then-number-eq0 : goal.returns-then-number-eq0
returns-then-number-eq0 c = search List-cases

pub overflow_add-from : goal.overflow_add-from
overflow_add-from c = search List-cases

pub loop-count-preserved : goal.loop-count-preserved
loop-count-preserved c =
    let more : 0 < most_listed - c.loop-count.count = omega arith in
    rw (sub-add-eq most_listed c.loop-count.count 1) (search List-cases)

pub returns : goal.returns
returns c =
    let none : most_listed - c.loop-count.count ≤ 0 = omega arith in
    search List-cases
