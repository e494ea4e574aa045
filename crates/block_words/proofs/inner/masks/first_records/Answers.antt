-- `block_words::inner::masks::first_records` meets its contract.
use Rattle.block_words.proofs.MaskCases.{shifted_some, first-all, first-word, first_fits}
use Rattle.block_words.proofs.inner.masks.first_records.Goals as goal

pub returns-then-n-eq64 : goal.returns-then-n-eq64
returns-then-n-eq64 c = first-all _ c.if-n-eq64.true

pub overflow_sub-result : goal.overflow_sub-result
overflow_sub-result c = shifted_some _ (first_fits _ c.requires c.if-n-eq64.false)

pub returns : goal.returns
returns c = first-word _ c.requires c.if-n-eq64.false
