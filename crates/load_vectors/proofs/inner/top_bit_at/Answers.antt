-- `load_vectors::inner::top_bit_at` meets its contract: the state shifted by 31, and its lowest bit then, is the top bit.
use Rattle.model.proofs.Prelude.{arith, rules}
use Rattle.load_vectors.proofs.DrawSteps.{lowest-fits, top-is}
use Rattle.load_vectors.proofs.inner.top_bit_at.Goals as goal

pub overflow_cast-result : goal.overflow_cast-result
overflow_cast-result c = search (lowest-fits, rules)

pub returns : goal.returns
returns c = top-is c.args.state c.args.input (omega (arith, c.requires))
