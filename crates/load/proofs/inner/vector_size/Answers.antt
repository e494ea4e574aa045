-- `load::inner::vector_size` meets its contract: at most 64 inputs of at most 36 bytes.
use Rattle.model.proofs.Prelude.{refl, arith}
use Rattle.load.proofs.SizeLaws.{size_small}
use Rattle.load.proofs.inner.vector_size.Goals as goal

pub overflow_mul-result-3 : goal.overflow_mul-result-3
overflow_mul-result-3 c =
    omega (arith, size_small c.args.inputs c.vector_bytes-bytes.result c.requires c.vector_bytes-bytes.ensures.1)

pub returns : goal.returns
returns c =
    (rw c.vector_bytes-bytes.ensures.0 refl, size_small c.args.inputs c.vector_bytes-bytes.result c.requires c.vector_bytes-bytes.ensures.1)
