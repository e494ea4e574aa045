-- `block_words::inner::gates::value_word` meets its contract, kind by kind.
use Rattle.model.proofs.Prelude.{rules}
use Rattle.block_words.proofs.OpenWordCases.{value-and, value-nand, value-nor, value-others}
use Rattle.block_words.proofs.inner.gates.value_word.Goals as goal

pub returns-in-3 : goal.returns-in-3
returns-in-3 c = search (value-and, rules)

pub returns-in-4 : goal.returns-in-4
returns-in-4 c = search (value-nand, rules)

pub returns-in-6 : goal.returns-in-6
returns-in-6 c = search (value-nor, rules)

pub returns-in_default : goal.returns-in_default
returns-in_default c = search (value-others, rules)
