-- `audit_report::claims::print_claims_of` is safe: lists are compared only where all ascend.
use Rattle.report_runs.proofs.AscendLaws.{ascends-of}
use Rattle.audit_report.proofs.claims.print_claims_of.Goals as goal

pub print_split-requires : goal.print_split-requires
print_split-requires c =
    let claimed = ascends-of _ c.ascending.ensures c.if-ascending.true in
    let truth = ascends-of _ c.ascending-then-ascending.ensures c.if-ascending-2.true in
    (claimed, truth, ascends-of _ c.ascending-then-ascending-2.ensures c.if-ascending-3.true)
