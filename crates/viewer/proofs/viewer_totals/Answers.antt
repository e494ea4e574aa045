-- `viewer::viewer_totals` meets its contract: a store of another length, then the rest.
use Rattle.viewer.proofs.ViewCases.{view-cases}
use Rattle.viewer.proofs.viewer_totals.Goals as goal

pub returns-then-store-ne-STORE_WORDS : goal.returns-then-store-ne-STORE_WORDS
returns-then-store-ne-STORE_WORDS c = search view-cases
