-- `report_differences::inner::first::all_held` meets its contract: lists that both ascend are compared.
use Rattle.report_runs.proofs.AscendLaws.{ascends-of}
use Rattle.report_differences.proofs.FirstClaimLaws.{claim-cases}
use Rattle.report_differences.proofs.inner.first.all_held.Goals as goal

pub each_held-requires : goal.each_held-requires
each_held-requires c =
    (ascends-of _ c.ascending.ensures c.if-ascending.true, ascends-of _ c.ascending-then-ascending.ensures c.if-ascending-2.true)

pub returns-then-ascending-2 : goal.returns-then-ascending-2
returns-then-ascending-2 c = search claim-cases

pub returns-else-ascending-2 : goal.returns-else-ascending-2
returns-else-ascending-2 c = search claim-cases

pub returns-else-ascending : goal.returns-else-ascending
returns-else-ascending c = search claim-cases
