-- `block_detection::inner::block_word` meets its contract: it has no loop of its own.
use Rattle.model.proofs.Prelude.{◌∙◌, arith}
use Rattle.block_detection.proofs.BlockWordCases.{block-inputs, block-ready, block-word}
use Rattle.block_detection.proofs.inner.block_word.Goals as goal

pub transpose-firsts-requires : goal.transpose-firsts-requires
transpose-firsts-requires c = let given = c.requires in (omega arith, given.1, block-inputs given.0)

pub transpose-lasts-requires : goal.transpose-lasts-requires
transpose-lasts-requires c = let given = c.requires in (omega arith, given.1, block-inputs given.0)

pub input_words-requires : goal.input_words-requires
input_words-requires c =
    let given = c.requires in
    (block-inputs given.0, given.1, given.0.room)

pub fault_word-requires : goal.fault_word-requires
fault_word-requires c =
    let given = c.requires in
    block-ready given.0 (c.gate_words.ensures.kept.same_length_of ∙ c.input_words.ensures.kept.same_length_of)

pub returns : goal.returns
returns c =
    let given = c.requires in
    block-word given.0 given.1 c.transpose-firsts.ensures c.transpose-lasts.ensures c.input_words.ensures c.gate_words.ensures _ _
    c.fault_word.ensures
