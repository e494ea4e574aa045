-- `report_claim_words::with_paths` meets its contract: one number, or two.
use Rattle.model.proofs.Prelude.{arith}
use Rattle.text_line.proofs.LineLaws.{then-part, as_part}
use Rattle.report_claim_words.proofs.WordCases.{one-path, some-paths}
use Rattle.report_claim_words.proofs.with_paths.Goals as goal

pub returns-then-low-high : goal.returns-then-low-high
returns-then-low-high c =
    let a = c.args in
    as_part _ _ _ _ (then-part _ _ _ _ _ c.with_text.ensures c.with_number.ensures) (one-path a.low a.high (omega arith))

pub returns : goal.returns
returns c =
    let a = c.args in
    let first = then-part _ _ _ _ _ c.with_text-2.ensures c.with_number-first.ensures in
    let second =
    then-part _ _ _ _ _ (then-part _ _ _ _ _ first c.with_text-3.ensures) c.with_number-2.ensures in
    as_part _ _ _ _ second (some-paths a.low a.high (λ e. omega (arith, e)))
