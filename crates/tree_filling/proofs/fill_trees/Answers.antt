-- `tree_filling::fill_trees` meets its contract: lent memory, the netlist, then what stands on its number of paths.
use Rattle.model.proofs.AnswerLaws.{exit}
use Rattle.tree_filling.proofs.TreeFillCases.{trees-legal, trees-cases}
use Rattle.tree_filling.proofs.fill_trees.Goals as goal

pub returns-then-store-ne-STORE_WORDS : goal.returns-then-store-ne-STORE_WORDS
returns-then-store-ne-STORE_WORDS c = search trees-cases

pub returns-then-rising-lt-TREE_WORDS : goal.returns-then-rising-lt-TREE_WORDS
returns-then-rising-lt-TREE_WORDS c = search trees-cases

pub returns-then-falling-lt-TREE_WORDS : goal.returns-then-falling-lt-TREE_WORDS
returns-then-falling-lt-TREE_WORDS c = search trees-cases

pub returns-in_err-legal : goal.returns-in_err-legal
returns-in_err-legal c = rw (exit _ _ c.from_residual.ensures.1) (search (c.in_err-legal.was, trees-cases))

pub fill_both-requires : goal.fill_both-requires
fill_both-requires c = search (c.in_ok-legal.was, trees-cases)

pub returns : goal.returns
returns c =
    trees-legal _ _ _ _ c.if-store-ne-STORE_WORDS.false c.if-rising-lt-TREE_WORDS.false c.if-falling-lt-TREE_WORDS.false
    _ c.survey.ensures _ c.in_ok-legal.was c.fill_both.ensures
