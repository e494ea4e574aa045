-- `viewer_ranges::inner::add_range` meets its contract: nothing is added where no path ends at the output, else the run of its paths.
use Rattle.model.proofs.Prelude.{rules}
use Rattle.viewer_ranges.proofs.ViewRangeCases.{range-cases}
use Rattle.viewer_ranges.proofs.inner.add_range.Goals as goal

pub outputs_before-before-requires : goal.outputs_before-before-requires
outputs_before-before-requires c = search range-cases

pub returns-then-last-before : goal.returns-then-last-before
returns-then-last-before c = search range-cases

pub append-requires : goal.append-requires
append-requires c = search rules

pub returns : goal.returns
returns c = search range-cases
