-- `tree::tree_delete` meets its contract: the checks come first, in their order, and write nothing.
use Rattle.model.proofs.Prelude.{ap, not, rules}
use Rattle.tree.proofs.ChangeCallCases.{delete_absent, delete_bad, delete_range, delete_short, delete_taken}
use Rattle.tree.proofs.TreeCallCases.{sound-tree}
use Rattle.tree.proofs.tree_delete.Goals as goal

pub returns-then-words-lt-TREE_WORDS : goal.returns-then-words-lt-TREE_WORDS
returns-then-words-lt-TREE_WORDS c = search (delete_short, rules)

pub returns-then-not-sound_words : goal.returns-then-not-sound_words
returns-then-not-sound_words c = search (delete_bad, rules)

pub returns-then-not-run_legal : goal.returns-then-not-run_legal
returns-then-not-run_legal c = search (delete_range, rules)

pub is_stored-requires : goal.is_stored-requires
is_stored-requires c = search (sound-tree, rules)

pub returns-then-not-is_stored : goal.returns-then-not-is_stored
returns-then-not-is_stored c = search (delete_absent, rules)

pub returns : goal.returns
returns c =
    delete_taken _ _ _ c.if-words-lt-TREE_WORDS.false _ c.sound_words.ensures (ap not c.if-not-sound_words.false) _ c.run_legal.ensures
    (ap not c.if-not-run_legal.false) _ c.is_stored.ensures (ap not c.if-not-is_stored.false) _ c.delete_run.ensures
