-- `block_words::inner::robust::robust_word` meets its contract, kind by kind.
use Rattle.model.proofs.Prelude.{rules}
use Rattle.block_words.proofs.RobustCases.{robust_and, robust_nand, robust_or, robust_nor, robust_others}
use Rattle.block_words.proofs.inner.robust.robust_word.Goals as goal

pub returns-in-3 : goal.returns-in-3
returns-in-3 c = search (robust_and, rules)

pub returns-in-4 : goal.returns-in-4
returns-in-4 c = search (robust_nand, rules)

pub returns-in-5 : goal.returns-in-5
returns-in-5 c = search (robust_or, rules)

pub returns-in-6 : goal.returns-in-6
returns-in-6 c = search (robust_nor, rules)

pub returns-in_default : goal.returns-in_default
returns-in_default c = search (robust_others, rules)
