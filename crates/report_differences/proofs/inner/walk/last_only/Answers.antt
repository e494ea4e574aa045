-- `report_differences::inner::walk::last_only` meets its contract. The invariant: every number passed is in the first runs only, and the runs before the
-- places end with it or before.
use Rattle.model.proofs.Prelude.{◌+◌, arith, rules}
use Rattle.report_differences.proofs.RunCases.{passed_later}
use Rattle.report_differences.proofs.RangeCases.{last-start, last-number}
use Rattle.report_differences.proofs.inner.walk.last_only.Goals as goal

pub loop-high-init : goal.loop-high-init
loop-high-init c =
    let s = last-start c.args.a.now c.args.b.now c.args.low c.requires.2 in (
      s.0,
      s.1,
      passed_later c.args.a.now c.args.i c.args.low (c.args.low + 1) (omega arith) c.requires.0,
      passed_later c.args.b.now c.args.j c.args.low (c.args.low + 1) (omega arith) c.requires.1,
    )

pub seek-here-requires : goal.seek-here-requires
seek-here-requires c = c.loop-high.invariant.2

pub seek-there-requires : goal.seek-there-requires
seek-there-requires c = c.loop-high.invariant.3

pub compare_at-found-requires : goal.compare_at-found-requires
compare_at-found-requires c = (c.seek-here.ensures, c.seek-there.ensures)

pub enum_told-1 : goal.enum_told-1
enum_told-1 c = search rules

pub returns-after-loop-high : goal.returns-after-loop-high
returns-after-loop-high c =
    (last-number c.args.a.now c.args.b.now c.args.low c.loop-high.high c.loop-high.invariant.0 c.loop-high.invariant.1 c.loop-high-test.false, c.loop-high.invariant.2, c.loop-high.invariant.3)
