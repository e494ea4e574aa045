-- `block_words::inner::lists::bit_of` meets its contract.
use Rattle.model.proofs.Prelude.{arith}
use Rattle.block_words.proofs.PackCases.{bit-number, bit-small}
use Rattle.block_words.proofs.inner.lists.bit_of.Goals as goal

pub overflow_cast-result : goal.overflow_cast-result
overflow_cast-result c = omega (arith, bit-small c.args.word c.args.place)

pub returns : goal.returns
returns c = bit-number c.args.word c.args.place
