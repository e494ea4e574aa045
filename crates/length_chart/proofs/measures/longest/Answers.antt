-- `length_chart::measures::longest` meets its contract. The invariant: the greatest length is among those below `left`.
use mathlib.Core.Path.{refl, sym, ◌∙◌}
use native.Mathlib.Omega.{arith}
use Rattle.length_chart.proofs.MeasureCases.{longest_here, longest_below_lem, longest_none}
use Rattle.length_chart.proofs.measures.longest.Goals as goal

pub loop-left-init : goal.loop-left-init
loop-left-init c = (omega arith, refl)

pub returns-then-paths-left-gt0 : goal.returns-then-paths-left-gt0
returns-then-paths-left-gt0 c =
    (sym (longest_here c.args.paths.now c.loop-left.left (omega arith) (omega arith)) ∙ c.loop-left.invariant.1, omega arith)

pub loop-left-preserved : goal.loop-left-preserved
loop-left-preserved c =
    (omega arith, longest_below_lem c.args.paths.now c.loop-left.left (omega arith) (omega arith) ∙ c.loop-left.invariant.1)

pub returns : goal.returns
returns c =
    (sym (longest_none c.args.paths.now c.loop-left.left (omega arith)) ∙ c.loop-left.invariant.1, omega arith)
