-- `record_test::inner::some_change` meets its contract. The loop's invariant: the bytes before k are equal.
use Rattle.model.proofs.Prelude.{arith, rules}
use Rattle.record_test.proofs.ChangeLaws.{equal-more, no_change, changed-byte}
use Rattle.record_test.proofs.inner.some_change.Goals as goal

pub loop-k-init : goal.loop-k-init
loop-k-init c = (omega arith, λ i h. absurd (omega arith))

pub returns-then-v1-k : goal.returns-then-v1-k
returns-then-v1-k c =
    let start = c.before in
    let k = c.loop-k.k in
    let bytes = c.vector_bytes-bytes.ensures.0 in
    changed-byte start.args.v1.now start.args.v2.now start.args.inputs start.requires.3 start.requires.4 k
    (omega (arith, bytes, c.loop-k-test.true)) (omega (arith, c.shared_slice_known-in-loop-k-1.given k))
    (omega (arith, c.shared_slice_known-in-loop-k-2-1.given k)) c.if-v1-k.true

pub loop-k-preserved : goal.loop-k-preserved
loop-k-preserved c =
    let start = c.before in
    let l = c.loop-k in
    (search rules, equal-more start.args.v1.now start.args.v2.now l.k l.invariant.1 c.if-v1-k.false)

pub returns : goal.returns
returns c =
    let start = c.before in
    let bytes = c.vector_bytes-bytes.ensures.0 in
    no_change start.args.v1.now start.args.v2.now start.args.inputs
    (λ i h. c.loop-k.invariant.1 i (omega (arith, bytes, c.loop-k-test.false)))
