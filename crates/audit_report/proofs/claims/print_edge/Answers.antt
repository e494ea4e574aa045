-- `audit_report::claims::print_edge` is safe: lists are compared only where both ascend.
use Rattle.report_runs.proofs.AscendLaws.{ascends-of}
use Rattle.audit_report.proofs.claims.print_edge.Goals as goal

pub print_pieces-requires : goal.print_pieces-requires
print_pieces-requires c =
    (ascends-of _ c.ascending.ensures c.if-ascending.true, ascends-of _ c.ascending-then-ascending.ensures c.if-ascending-2.true)
