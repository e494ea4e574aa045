-- `store_words::inner::row_bits` meets its contract: the words are all zero as the bits seen and the words that are left of the row are.
use Rattle.store_words.proofs.ZeroSteps.{row-cases}
use Rattle.store_words.proofs.inner.row_bits.Goals as goal

pub loop-i-init : goal.loop-i-init
loop-i-init c = search row-cases

pub overflow_add-seen : goal.overflow_add-seen
overflow_add-seen c = search row-cases

pub offset_bounds-words-at : goal.offset_bounds-words-at
offset_bounds-words-at c = search row-cases

pub bounds-words-at : goal.bounds-words-at
bounds-words-at c = search row-cases

pub loop-i-preserved : goal.loop-i-preserved
loop-i-preserved c = search row-cases

pub returns : goal.returns
returns c = search row-cases
