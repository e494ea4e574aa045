-- `report_runs::inner::runs_from` meets its contract: the part lies within the report.
use Rattle.model.proofs.Prelude.{ℕ, ◌+◌, ◌-◌, ◌*◌, ◌≡◌, ◌∙◌, ap, drop, take, arith}
use Rattle.report_runs.proofs.inner.runs_from.Goals as goal

pub returns : goal.returns
returns c =
    let a = c.args in
    let n = c.least-present.result in
    let e : a.at + 16 * c.least-present.result - a.at ≡ 16 * c.least-present.result = omega arith in
    ap (λ (k : ℕ). take k (drop a.at a.report.now)) (e ∙ ap (λ (k : ℕ). 16 * k) c.least-present.ensures)
