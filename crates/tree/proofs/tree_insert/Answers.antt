-- `tree::tree_insert` meets its contract: the checks come first, in their order, and write nothing.
use Rattle.model.proofs.Prelude.{ap, not, rules}
use Rattle.tree.proofs.ChangeCallCases.{insert_bad, insert_full, insert_inserts, insert_range, insert_short, insert_taken}
use Rattle.tree.proofs.TreeCallCases.{sound-tree}
use Rattle.tree.proofs.SearchCases.{legal-low, legal-both, legal-high}
use Rattle.tree.proofs.tree_insert.Goals as goal

pub returns-then-words-lt-TREE_WORDS : goal.returns-then-words-lt-TREE_WORDS
returns-then-words-lt-TREE_WORDS c = search (insert_short, rules)

pub returns-then-not-sound_words : goal.returns-then-not-sound_words
returns-then-not-sound_words c = search (insert_bad, rules)

pub returns-then-not-run_legal : goal.returns-then-not-run_legal
returns-then-not-run_legal c = search (insert_range, rules)

pub returns-then-is_full : goal.returns-then-is_full
returns-then-is_full c = search (insert_full, rules)

pub insert_run-requires : goal.insert_run-requires
insert_run-requires c = search (insert_inserts, rules)

pub is_full-requires : goal.is_full-requires
is_full-requires c = search (sound-tree, legal-low, legal-both, legal-high, rules)

pub returns : goal.returns
returns c =
    insert_taken _ _ _ c.if-words-lt-TREE_WORDS.false _ c.sound_words.ensures (ap not c.if-not-sound_words.false) _ c.run_legal.ensures
    (ap not c.if-not-run_legal.false) _ c.is_full.ensures c.if-is_full.false _ c.insert_run.ensures
