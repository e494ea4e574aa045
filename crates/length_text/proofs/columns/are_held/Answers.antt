-- `length_text::columns::are_held` meets its contract: one number after the other.
use Rattle.model.proofs.Prelude.{arith}
use Rattle.length_text.proofs.HeldShareCases.{no-paths, too_many, rising-over, falling-told}
use Rattle.length_text.proofs.columns.are_held.Goals as goal

pub returns-then-paths-eq0 : goal.returns-then-paths-eq0
returns-then-paths-eq0 c = no-paths c.args.paths c.args.rising c.args.falling (omega arith)

pub returns-then-paths-gt-MAX_COUNT : goal.returns-then-paths-gt-MAX_COUNT
returns-then-paths-gt-MAX_COUNT c =
    too_many c.args.paths c.args.rising c.args.falling (omega arith) (omega arith)

pub returns-then-paths-rising : goal.returns-then-paths-rising
returns-then-paths-rising c =
    rising-over c.args.paths c.args.rising c.args.falling (omega arith) (omega arith) (omega arith)

pub returns : goal.returns
returns c =
    falling-told c.args.paths c.args.rising c.args.falling (omega arith) (omega arith) (omega arith)
