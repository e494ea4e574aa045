-- `length_chart::measures::height_of` meets its contract: a fifth of the thousandths where there is a part of the paths.
use native.Mathlib.Omega.{arith}
use Rattle.length_chart.proofs.MeasureCases.{no-height, over-height, height_there}
use Rattle.length_chart.proofs.measures.height_of.Goals as goal

pub returns-then-paths-eq0 : goal.returns-then-paths-eq0
returns-then-paths-eq0 c = no-height c.args.held c.args.paths (omega arith)

pub returns-then-paths-held : goal.returns-then-paths-held
returns-then-paths-held c = over-height c.args.held c.args.paths (omega arith) (omega arith)

pub returns : goal.returns
returns c =
    height_there c.args.held c.args.paths c.thousandths.result (omega arith) (omega arith) c.thousandths.ensures
