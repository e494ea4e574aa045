-- `record_bytes::inner::same` meets its contract: what is left decides.
use Rattle.model.proofs.Prelude.{◌+◌, ◌-◌, ◌∙◌, sym, arith}
use Rattle.std.proofs.Math.Nat.{add_assoc, sub-add-eq}
use Rattle.record_bytes.proofs.ByteLaws.{same-yes, same-no, same_none}
use Rattle.record_bytes.proofs.inner.same.Goals as goal

pub overflow_cast-s : goal.overflow_cast-s
overflow_cast-s c = omega (arith, c.shared_slice_known-1.given (c.args.at + c.loop-i.i))

pub returns-then-s-at : goal.returns-then-s-at
returns-then-s-at c = let a = c.args in
    let l = c.loop-i in
    sym (same-no a.s.now (a.at + l.i) (a.k - l.i) l.rest (omega arith) (omega arith) c.if-s-at.true) ∙ l.invariant

pub loop-i-preserved : goal.loop-i-preserved
loop-i-preserved c = let a = c.args in
    let l = c.loop-i in
    rw (sub-add-eq a.k l.i 1, sym (add_assoc a.at l.i 1))
    (sym (same-yes a.s.now (a.at + l.i) (a.k - l.i) l.rest (omega arith) (omega arith) c.if-s-at.false) ∙ l.invariant)

pub returns : goal.returns
returns c = let a = c.args in
    let l = c.loop-i in
    sym (same_none a.s.now (a.at + l.i) (a.k - l.i) l.rest (omega arith)) ∙ l.invariant
