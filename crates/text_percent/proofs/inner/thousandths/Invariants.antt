-- `text_percent::inner::thousandths` meets its contract. The invariant: the additions so far are the quotient times the whole and a rest below it.
use Rattle.model.proofs.Prelude.{◌≤◌, ◌<◌, ◌+◌, ◌*◌, ◌≡◌}
use Rattle.text_percent.proofs.inner.thousandths.Given as goal

abbrev pub invariant-loop : goal.invariant-loop
invariant-loop l =
    (l.quotient ≤ l.counter) × (l.counter ≤ 1000) × (l.rest < l.whole) × (l.part * l.counter ≡ l.quotient * l.whole + l.rest)
