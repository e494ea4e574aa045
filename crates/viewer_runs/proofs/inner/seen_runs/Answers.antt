-- `viewer_runs::inner::seen_runs` meets its contract: what the ranges and the edge's runs have in common.
use Rattle.viewer_runs.proofs.SeenRunCases.{seen-cases}
use Rattle.viewer_runs.proofs.inner.seen_runs.Goals as goal

pub common-requires : goal.common-requires
common-requires c = search seen-cases

pub returns : goal.returns
returns c = search seen-cases
