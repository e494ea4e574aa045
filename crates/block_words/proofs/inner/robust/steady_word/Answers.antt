-- `block_words::inner::robust::steady_word` meets its contract, kind by kind.
use Rattle.model.proofs.Prelude.{rules}
use Rattle.block_words.proofs.SteadyCases.{steady-and, steady-nand, steady-or, steady-nor, steady-others}
use Rattle.block_words.proofs.inner.robust.steady_word.Goals as goal

pub returns-in-3 : goal.returns-in-3
returns-in-3 c = search (steady-and, rules)

pub returns-in-4 : goal.returns-in-4
returns-in-4 c = search (steady-nand, rules)

pub returns-in-5 : goal.returns-in-5
returns-in-5 c = search (steady-or, rules)

pub returns-in-6 : goal.returns-in-6
returns-in-6 c = search (steady-nor, rules)

pub returns-in_default : goal.returns-in_default
returns-in_default c = search (steady-others, rules)
