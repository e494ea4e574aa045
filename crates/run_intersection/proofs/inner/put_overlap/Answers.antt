-- `run_intersection::inner::put_overlap` meets its contract: nothing is put where the larger low is over the smaller high, else one run after those that stand there.
use Rattle.run_intersection.proofs.MeetCases.{put-cases}
use Rattle.run_intersection.proofs.inner.put_overlap.Goals as goal

pub returns-then-high-low : goal.returns-then-high-low
returns-then-high-low c = search put-cases

pub returns : goal.returns
returns c = search put-cases
