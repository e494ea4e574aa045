-- `text_percent::with_count` meets its contract: the number, then `path` or `paths`.
use Rattle.model.proofs.Prelude.{arith}
use Rattle.text_line.proofs.LineLaws.{then-part, as_part}
use Rattle.text_percent.proofs.ShareCases.{count-one, count-more}
use Rattle.text_percent.proofs.with_count.Goals as goal

pub returns-then-paths-eq1 : goal.returns-then-paths-eq1
returns-then-paths-eq1 c =
    as_part _ _ _ _ (then-part _ _ _ _ _ c.with_number-number.ensures c.with_text.ensures) (count-one c.args.paths (omega arith))

pub returns : goal.returns
returns c =
    as_part _ _ _ _ (then-part _ _ _ _ _ c.with_number-number.ensures c.with_text-2.ensures) (count-more c.args.paths (λ e. omega (arith, e)))
