-- `tree_filling::filling::fill_both` meets its contract: the checks of the words, then each edge's runs in a tree.
use Rattle.model.proofs.AnswerLaws.{exit}
use Rattle.tree_filling.proofs.TreeFillCases.{both-cases}
use Rattle.tree_filling.proofs.filling.fill_both.Goals as goal

pub edge_runs-up-requires : goal.edge_runs-up-requires
edge_runs-up-requires c = search (c.in_ok-check_words.was, both-cases)

pub fill-requires : goal.fill-requires
fill-requires c = search (c.in_ok-check_words.was, both-cases)

pub fill-requires-2 : goal.fill-requires-2
fill-requires-2 c = search (c.in_ok-check_words.was, both-cases)

pub returns-in_err-check_words : goal.returns-in_err-check_words
returns-in_err-check_words c = rw (exit _ _ c.from_residual.ensures.1) (search (c.in_err-check_words.was, both-cases))

pub returns : goal.returns
returns c = search (c.in_ok-check_words.was, both-cases)
