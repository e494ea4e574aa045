-- `record_bytes::inner::spare_zero` meets its contract: the masks by 7 and by the spare bits are a remainder and a test of each of these bits.
use Rattle.model.proofs.Prelude.{◌/◌, ◌%◌, ◌≡◌, ◌∙◌, sym, arith}
use lib.Bits.{and_mask, mask_lt}
use Rattle.record_bytes.proofs.VectorLaws.{spare-none, spare-mask}
use Rattle.record_bytes.proofs.inner.spare_zero.Goals as goal

pub overflow_cast-used : goal.overflow_cast-used
overflow_cast-used c = omega (arith, mask_lt c.args.inputs 3)

pub returns-then-used-eq0 : goal.returns-then-used-eq0
returns-then-used-eq0 c =
    let a = c.args in
    spare-none a.vector.now a.inputs (sym (and_mask a.inputs 3) ∙ c.if-used-eq0.true)

pub bounds-vector-inputs : goal.bounds-vector-inputs
bounds-vector-inputs c =
    let part : c.args.inputs % 8 ≡ 0 → ⊥ = λ z. c.if-used-eq0.false (and_mask c.args.inputs 3 ∙ z) in
    omega (arith, c.requires.1)

pub overflow_shl-result : goal.overflow_shl-result
overflow_shl-result c = mask_lt c.args.inputs 3

pub returns : goal.returns
returns c =
    let a = c.args in
    rw (and_mask a.inputs 3)
    (spare-mask a.vector.now a.inputs (λ z. c.if-used-eq0.false (and_mask a.inputs 3 ∙ z)) (c.shared_slice_known-1.given (a.inputs / 8)).fits)
