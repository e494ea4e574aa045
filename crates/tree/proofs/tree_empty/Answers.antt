-- `tree::tree_empty` meets its contract: the first three words are set, and nothing is read but the length.
use Rattle.model.proofs.Prelude.{length-set, arith, rules}
use Rattle.tree.proofs.TreeCallCases.{empty-short, empty-same, empty-taken, empty-words}
use Rattle.tree.proofs.tree_empty.Goals as goal

pub returns-then-words-lt-TREE_WORDS : goal.returns-then-words-lt-TREE_WORDS
returns-then-words-lt-TREE_WORDS c = record { answer = search (empty-short, rules); words = search (empty-same, rules) }

pub bounds-words-1 : goal.bounds-words-1
bounds-words-1 c = simp length-set (omega arith)

pub bounds-words-2 : goal.bounds-words-2
bounds-words-2 c = simp length-set (omega arith)

pub returns : goal.returns
returns c = record { answer = search (empty-taken, rules); words = search (empty-words, rules) }
