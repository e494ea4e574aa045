-- `block_words::inner::lists::lowest_record` meets its contract.
use Rattle.model.proofs.Prelude.{refl, arith}
use Rattle.block_words.proofs.LowBitLaws.{low-in}
use Rattle.block_words.proofs.inner.lists.lowest_record.Goals as goal

pub overflow_cast-result : goal.overflow_cast-result
overflow_cast-result c = omega (arith, low-in c.well_formed.0.1 c.requires)

pub returns : goal.returns
returns c = record { is_lowest = refl; inside = low-in c.well_formed.0.1 c.requires }
