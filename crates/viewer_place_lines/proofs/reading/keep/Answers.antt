-- `viewer_place_lines::reading::keep` meets its contract: a full list is as it was, another has the place after those before.
use Rattle.model.proofs.Prelude.{rules}
use Rattle.viewer_place_lines.proofs.PlaceListLaws.{List-cases}
use Rattle.viewer_place_lines.proofs.reading.keep.Goals as goal

pub returns-then-at-ge-MOST_KEPT : goal.returns-then-at-ge-MOST_KEPT
returns-then-at-ge-MOST_KEPT c = (search List-cases, search rules)

pub returns : goal.returns
returns c = (search List-cases, search List-cases)
