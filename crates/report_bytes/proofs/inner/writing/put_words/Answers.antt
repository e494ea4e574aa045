-- `report_bytes::inner::writing::put_words` meets its contract. The invariant: the words that are left, written from here on, give the whole.
use Rattle.model.proofs.Prelude.{rules}
use Rattle.report_bytes.proofs.WordSteps.{put-cases}
use Rattle.report_bytes.proofs.inner.writing.put_words.Goals as goal

pub loop-i-init : goal.loop-i-init
loop-i-init c = (search rules, search rules, search put-cases)

pub put-requires : goal.put-requires
put-requires c = search rules

pub returns : goal.returns
returns c = search put-cases
