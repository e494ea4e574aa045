-- `listing_lines::inner::put_paths` meets its contract: the word `paths` and a number.
use Rattle.listing_lines.specs.ListingLines.{paths_line}
use Rattle.listing_lines.proofs.inner.put_paths.Goals as goal

pub returns : goal.returns
unfolding paths_line
returns c = c.put_numbered.ensures.0
