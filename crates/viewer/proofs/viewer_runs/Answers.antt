-- `viewer::viewer_runs` meets its contract: either store of another length, then the rest.
use Rattle.viewer.proofs.ViewCases.{view-cases}
use Rattle.viewer.proofs.viewer_runs.Goals as goal

pub returns-then-store-ne-STORE_WORDS : goal.returns-then-store-ne-STORE_WORDS
returns-then-store-ne-STORE_WORDS c = search view-cases

pub returns-then-view-ne-STORE_WORDS : goal.returns-then-view-ne-STORE_WORDS
returns-then-view-ne-STORE_WORDS c = search view-cases
