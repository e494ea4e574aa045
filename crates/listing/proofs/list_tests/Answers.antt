-- `listing::list_tests` is safe: an emptied store is ready for the walk, and the text that it leaves lies in the buffer.
use Rattle.model.proofs.Prelude.{rules}
use Rattle.listing.proofs.ListCases.{List-cases}
use Rattle.listing.proofs.list_tests.Goals as goal

pub list_file-listed-requires : goal.list_file-listed-requires
list_file-listed-requires g c = (search List-cases, search List-cases, search rules)
