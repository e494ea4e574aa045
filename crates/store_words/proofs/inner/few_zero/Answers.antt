-- `store_words::inner::few_zero` meets its contract: the words are all zero as the bits seen and the words that are left are.
use Rattle.model.proofs.Prelude.{◌+◌, ◌-◌, arith, refl}
use Rattle.std.proofs.Math.Nat.{sub-add-eq, add-sub_cancel_left}
use Rattle.store_words.proofs.ZeroSteps.{zeros-more, zeros-end}
use Rattle.store_words.proofs.inner.few_zero.Goals as goal

pub loop-place-init : goal.loop-place-init
loop-place-init c = rw (add-sub_cancel_left c.args.at c.args.n) refl

pub loop-place-preserved : goal.loop-place-preserved
loop-place-preserved c =
    let a = c.args in
    let l = c.loop-place in
    let left = a.at + a.n - l.place in
    rw (sub-add-eq (a.at + a.n) l.place 1) (zeros-more a.words.now a.at a.n l.place left l.seen l.invariant (omega arith) c.requires (omega arith))

pub returns : goal.returns
returns c =
    let a = c.args in
    let l = c.loop-place in
    zeros-end a.words.now a.at a.n l.place (a.at + a.n - l.place) l.seen l.invariant (omega arith)
