-- `report_differences::inner::walk::first_only` meets its contract. The invariant: no number passed is in the first runs only, and the runs before the places
-- end before the number.
use Rattle.model.proofs.Prelude.{rules}
use Rattle.report_differences.proofs.RangeCases.{first-start}
use Rattle.report_differences.proofs.inner.walk.first_only.Goals as goal

pub loop-next-init : goal.loop-next-init
loop-next-init c =
    let s = first-start c.args.a.now c.args.b.now c.args.from in
    (s.0, s.1, c.requires.0, c.requires.1)

pub seek-here-requires : goal.seek-here-requires
seek-here-requires c = c.loop-next.invariant.2

pub seek-there-requires : goal.seek-there-requires
seek-there-requires c = c.loop-next.invariant.3

pub compare_at-found-requires : goal.compare_at-found-requires
compare_at-found-requires c = (c.seek-here.ensures, c.seek-there.ensures)

pub enum_told-1 : goal.enum_told-1
enum_told-1 c = search rules
