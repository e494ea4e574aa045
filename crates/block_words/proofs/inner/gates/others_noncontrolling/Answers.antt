-- `block_words::inner::gates::others_noncontrolling` meets its contract.
use Rattle.block_words.proofs.OpenWordCases.{others-noncontrolling_word}
use Rattle.block_words.proofs.inner.gates.others_noncontrolling.Goals as goal

pub returns : goal.returns
returns c = others-noncontrolling_word _ _ _ c.well_formed.0.1 c.well_formed.1.0.1
