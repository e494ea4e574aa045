-- `report_verdict::class_line` meets its contract: each class's text alone on a line.
use Rattle.report_verdict.proofs.VerdictLaws.{Class-cases}
use Rattle.report_verdict.proofs.class_line.Goals as goal

pub returns-then-class-eq-ROBUST : goal.returns-then-class-eq-ROBUST
returns-then-class-eq-ROBUST c = search Class-cases

pub returns : goal.returns
returns c = search Class-cases
