-- `record_bytes::inner::put` meets its contract: what is left to write, written, gives the whole.
use Rattle.model.proofs.Prelude.{◌+◌, ◌-◌, ◌∙◌, sym, length-set, arith}
use Rattle.std.proofs.Math.Nat.{add_assoc, sub-add-eq}
use Rattle.record_bytes.proofs.ByteLaws.{put_step, put-none}
use Rattle.record_bytes.proofs.inner.put.Goals as goal

pub loop-i-preserved : goal.loop-i-preserved
loop-i-preserved c = let a = c.args in
    let l = c.loop-i in (
      simp length-set l.invariant.0,
      rw (sub-add-eq a.k l.i 1, sym (add_assoc a.at l.i 1)) (put_step l.s (a.at + l.i) (a.k - l.i) l.rest (omega arith) ∙ l.invariant.1),
    )

pub returns : goal.returns
returns c = let l = c.loop-i in
    sym (put-none l.s (c.args.at + l.i) (c.args.k - l.i) l.rest (omega arith)) ∙ l.invariant.1
