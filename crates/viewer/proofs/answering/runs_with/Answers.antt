-- `viewer::answering::runs_with` meets its contract: what looking refuses, then too many runs, then the runs written.
use Rattle.model.proofs.AnswerLaws.{exit}
use Rattle.model.proofs.Prelude.{rules}
use Rattle.viewer.proofs.ViewCases.{own-few, view-written, view-cases}
use Rattle.viewer.proofs.answering.runs_with.Goals as goal

pub returns-then-rising-gt-MAX_RUNS : goal.returns-then-rising-gt-MAX_RUNS
returns-then-rising-gt-MAX_RUNS c = search (c.in_ok-count.was, view-cases)

pub returns-then-falling-gt-MAX_RUNS : goal.returns-then-falling-gt-MAX_RUNS
returns-then-falling-gt-MAX_RUNS c = search (c.in_ok-count.was, view-cases)

pub returns-in_err-count : goal.returns-in_err-count
returns-in_err-count c = rw (exit _ _ c.from_residual.ensures.1) (search (c.in_err-count.was, view-cases))

pub returns : goal.returns
returns c = search (c.in_ok-count.was, own-few, view-written, view-cases, rules)

pub seen_runs-falling-requires : goal.seen_runs-falling-requires
seen_runs-falling-requires c = search (c.in_ok-count.was, own-few, view-written, view-cases, rules)

pub seen_runs-rising-requires : goal.seen_runs-rising-requires
seen_runs-rising-requires c = search (c.in_ok-count.was, own-few, view-written, view-cases, rules)
