-- `block_words::inner::gates::open_word` meets its contract, kind by kind.
use Rattle.model.proofs.Prelude.{rules}
use Rattle.block_words.proofs.OpenWordCases.{open_and, open_nand, open_or, open_nor, open_others}
use Rattle.block_words.proofs.inner.gates.open_word.Goals as goal

pub returns-in-3 : goal.returns-in-3
returns-in-3 c = search (open_and, rules)

pub returns-in-4 : goal.returns-in-4
returns-in-4 c = search (open_nand, rules)

pub returns-in-5 : goal.returns-in-5
returns-in-5 c = search (open_or, rules)

pub returns-in-6 : goal.returns-in-6
returns-in-6 c = search (open_nor, rules)

pub returns-in_default : goal.returns-in_default
returns-in_default c = search (open_others, rules)
