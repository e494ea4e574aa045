-- `tree::tree_holds_each` meets its contract: the checks come first, in their order, and write nothing.
use Rattle.model.proofs.Prelude.{rules}
use Rattle.tree.proofs.EachCases.{each-short, each-short-same, each-bad, each-bad-same, each-taken, each-words}
use Rattle.tree.proofs.TreeCallCases.{sound-tree}
use Rattle.tree.proofs.tree_holds_each.Goals as goal

pub returns-then-words-lt-TREE_WORDS : goal.returns-then-words-lt-TREE_WORDS
returns-then-words-lt-TREE_WORDS c = record { answer = search (each-short, rules); words = each-short-same _ _ _ c.if-words-lt-TREE_WORDS.true }

pub answer_each-requires : goal.answer_each-requires
answer_each-requires c = search (sound-tree, rules)

pub returns : goal.returns
returns c = search (each-taken, each-words, rules)

pub returns-then-not-sound_words : goal.returns-then-not-sound_words
returns-then-not-sound_words c = search (each-bad, each-bad-same, rules)
