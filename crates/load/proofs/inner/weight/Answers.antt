-- `load::inner::weight` meets its contract: the shifted 1 does not leave the word.
use Rattle.model.proofs.Prelude.{arith}
use Rattle.record_bytes.proofs.BitLaws.{one_shifted}
use Rattle.load.proofs.inner.weight.Goals as goal

pub returns : goal.returns
returns c = one_shifted c.args.input (omega (arith, c.requires))
