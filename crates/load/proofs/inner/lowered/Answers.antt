-- `load::inner::lowered` meets its contract: the mask of one bit leaves that bit.
use Rattle.model.proofs.Prelude.{◌-◌, ap}
use lib.Bits.{and_le_l}
use Rattle.load.proofs.VectorWordLaws.{mask_bit}
use Rattle.load.proofs.inner.lowered.Goals as goal

pub overflow_sub-result : goal.overflow_sub-result
overflow_sub-result c = and_le_l c.args.vector c.args.bit

pub returns : goal.returns
returns c = rw c.requires (ap (λ k. c.args.vector - k) (mask_bit c.args.vector c.args.input))
