-- `tree::tree_holds` meets its contract: the checks come first, in their order.
use Rattle.model.proofs.Prelude.{rules}
use Rattle.tree.proofs.TreeCallCases.{holds-short, holds-bad, holds-zero, holds-high, holds-taken}
use Rattle.tree.proofs.tree_holds.Goals as goal

pub returns-then-words-lt-TREE_WORDS : goal.returns-then-words-lt-TREE_WORDS
returns-then-words-lt-TREE_WORDS c = search (holds-short, rules)

pub returns-then-not-sound_words : goal.returns-then-not-sound_words
returns-then-not-sound_words c = search (holds-bad, rules)

pub returns-then-number-lt1 : goal.returns-then-number-lt1
returns-then-number-lt1 c = search (holds-zero, rules)

pub returns-then-number-gt-MAX_COUNT : goal.returns-then-number-gt-MAX_COUNT
returns-then-number-gt-MAX_COUNT c = search (holds-high, rules)

pub returns : goal.returns
returns c = search (holds-taken, rules)
