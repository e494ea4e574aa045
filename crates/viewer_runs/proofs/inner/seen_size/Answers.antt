-- `viewer_runs::inner::seen_size` meets its contract: the size of what the ranges and the edge's runs have in common.
use Rattle.viewer_runs.proofs.SeenRunCases.{seen-cases}
use Rattle.viewer_runs.proofs.inner.seen_size.Goals as goal

pub size-requires : goal.size-requires
size-requires c = search seen-cases

pub returns : goal.returns
returns c = search seen-cases
