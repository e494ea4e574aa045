-- `testfile_walk::inner::apply_pieces` meets its contract. The invariant, `Reading`: what was read so far is whole records, and they were taken.
use Rattle.model.proofs.Prelude.{◌-◌, rules}
use Rattle.testfile_walk.proofs.ReadingCases.{walk-cases}
use Rattle.testfile_walk.proofs.inner.apply_pieces.Goals as goal

pub record_length-bytes-requires : goal.record_length-bytes-requires
record_length-bytes-requires c = search walk-cases

pub loop-so_far-init : goal.loop-so_far-init
loop-so_far-init c = search walk-cases

pub read_part-n-requires : goal.read_part-n-requires
read_part-n-requires c = search walk-cases

pub returns-then-n-least : goal.returns-then-n-least
returns-then-n-least c = search walk-cases

pub loop-so_far-preserved : goal.loop-so_far-preserved
loop-so_far-preserved c = (search walk-cases, search rules, search rules, search rules)

pub returns : goal.returns
returns c = search walk-cases
