-- `length_untested::begin_at` meets its contract: the three cases of a place.
use Rattle.length_untested.proofs.LongestCases.{begin-cases}
use Rattle.length_untested.proofs.begin_at.Goals as goal

pub returns-then-gates-gt63 : goal.returns-then-gates-gt63
returns-then-gates-gt63 c = search begin-cases

pub returns-then-from-lt1 : goal.returns-then-from-lt1
returns-then-from-lt1 c = search begin-cases

pub returns : goal.returns
returns c = search begin-cases
