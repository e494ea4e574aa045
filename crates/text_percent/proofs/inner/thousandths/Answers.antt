-- `text_percent::inner::thousandths` meets its contract. The invariant: the additions so far are the quotient times the whole and a rest below it.
use Rattle.model.proofs.Prelude.{arith}
use Rattle.text_percent.proofs.ShareLaws.{added-rest, added-whole, all-added}
use Rattle.text_percent.proofs.inner.thousandths.Goals as goal
use Rattle.text_percent.proofs.inner.thousandths.Goals.{then-rest-whole, else-rest-whole}

pub loop-init : goal.loop-init
loop-init c = (omega arith, omega arith, omega (arith, c.requires), omega arith)

pub loop-preserved : goal.loop-preserved
loop-preserved c =
    let l = c.loop in
    let now = c.if-rest-whole in
    elim now.branch [
      | then-rest-whole w ↦ (
        omega arith,
        omega arith,
        omega arith,
        added-rest c.args.part c.args.whole l.quotient l.rest l.counter l.invariant.3 now.quotient now.rest w.quotient-is w.rest-is,
      )
      | else-rest-whole w ↦ (
        omega arith,
        omega arith,
        omega arith,
        added-whole c.args.part c.args.whole l.quotient l.rest l.counter l.invariant.3 c.requires.1 w.if-rest-whole.false now.quotient now.rest w.quotient-is w.rest-is,
      )
    ]

pub returns : goal.returns
returns c =
    let l = c.loop in
    all-added c.args.part c.args.whole l.quotient l.rest l.counter (omega arith) l.invariant.2 (omega arith) l.invariant.3
