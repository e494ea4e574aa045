-- `text_percent::is_part` meets its contract: with no path nothing is a part.
use Rattle.model.proofs.Prelude.{arith}
use Rattle.text_percent.proofs.ShareCases.{no-paths, part-told}
use Rattle.text_percent.proofs.is_part.Goals as goal

pub returns-then-paths-eq0 : goal.returns-then-paths-eq0
returns-then-paths-eq0 c = no-paths c.args.part c.args.paths (omega arith)

pub returns : goal.returns
returns c = part-told c.args.part c.args.paths (λ e. omega (arith, e))
