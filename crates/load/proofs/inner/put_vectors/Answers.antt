-- `load::inner::put_vectors` meets its contract. The invariant: what is written, and the records of the vectors that are left, drawn and written from
-- here on, give the whole.
use Rattle.model.proofs.Prelude.{ℕ, ◌≤◌, ◌<◌, ◌+◌, ◌-◌, ◌*◌, ◌≡◌, ◌∙◌, ap, suc-mul, add-one, arith}
use Rattle.std.proofs.Math.Nat.{sub-zero, sub-add-eq}
use Rattle.load.proofs.LoadCallCases.{gather-cases}
use Rattle.load.proofs.inner.put_vectors.Goals as goal

pub loop-k-init : goal.loop-k-init
loop-k-init c = rw (sub-zero c.args.vectors) (search gather-cases)

pub overflow_mul-k : goal.overflow_mul-k
overflow_mul-k c =
    let more : 0 < c.args.vectors - c.loop-k.k = omega arith in
    search gather-cases

pub put_vector-last-requires : goal.put_vector-last-requires
put_vector-last-requires c =
    let more : 0 < c.args.vectors - c.loop-k.k = omega arith in
    search gather-cases

pub loop-k-preserved : goal.loop-k-preserved
loop-k-preserved c =
    let k = c.loop-k.k in
    let size = c.vector_size-size.result in
    let more : 0 < c.args.vectors - k = omega arith in
    let next : (k + 1) * size ≡ k * size + size = ap (λ (n : ℕ). n * size) (add-one k) ∙ suc-mul k size in
    rw (sub-add-eq c.args.vectors k 1, next) (search gather-cases)

pub returns : goal.returns
returns c =
    let none : c.args.vectors - c.loop-k.k ≤ 0 = omega arith in
    search gather-cases
