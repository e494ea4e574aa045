-- `store_words::inner::zero_words` meets its contract: the words are all zero as the bits seen and the words that are left are.
use Rattle.model.proofs.Prelude.{◌+◌, ◌-◌, ◌*◌, ◌≡◌, add-zero, arith}
use Rattle.std.proofs.Math.Nat.{sub-zero}
use Rattle.store_words.specs.WordAnswers.{row_words}
use Rattle.store_words.proofs.ZeroSteps.{zeros-first, rows_more}
use Rattle.store_words.proofs.inner.zero_words.Goals as goal

pub loop-row-init : goal.loop-row-init
loop-row-init c = let a = c.args in
    rw (add-zero (a.at + 1), sub-zero (a.n - 1)) (zeros-first a.words.now a.at a.n c.if-n-eq0.false c.requires)

pub loop-row-preserved : goal.loop-row-preserved
loop-row-preserved c =
    let a = c.args in
    let l = c.loop-row in
    let place = a.at + 1 + row_words * l.row in
    let left = a.n - 1 - row_words * l.row in
    let next : a.at + 1 + row_words * (l.row + 1) ≡ place + row_words = omega arith in
    let rest : a.n - 1 - row_words * (l.row + 1) ≡ left - row_words = omega arith in
    rw (next, rest) (rows_more a.words.now a.at a.n place left l.seen l.invariant c.row_bits-seen.result c.row_bits-seen.ensures (omega arith))
