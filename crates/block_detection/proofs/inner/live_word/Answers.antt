-- `block_detection::inner::live_word` meets its contract: the word at its place.
use Rattle.block_detection.proofs.ActiveLaws.{live-cases}
use Rattle.block_detection.proofs.inner.live_word.Goals as goal

pub returns-in-Rising : goal.returns-in-Rising
returns-in-Rising c = search live-cases

pub returns-in-Falling : goal.returns-in-Falling
returns-in-Falling c = search live-cases
