-- `tree::tree_total` meets its contract: the checks come first, in their order.
use Rattle.model.proofs.Prelude.{rules}
use Rattle.tree.proofs.TreeCallCases.{total-short, total-bad, sound-tree, total-taken}
use Rattle.tree.proofs.tree_total.Goals as goal

pub returns-then-words-lt-TREE_WORDS : goal.returns-then-words-lt-TREE_WORDS
returns-then-words-lt-TREE_WORDS c = search (total-short, rules)

pub returns-then-not-sound_words : goal.returns-then-not-sound_words
returns-then-not-sound_words c = search (total-bad, rules)

pub total_of-total-requires : goal.total_of-total-requires
total_of-total-requires c = search (sound-tree, rules)

pub returns : goal.returns
returns c = search (total-taken, rules)
