-- `tree::tree_search` meets its contract: the checks come first, in their order.
use Rattle.model.proofs.Prelude.{rules}
use Rattle.tree.proofs.SearchCases.{search_short, search_bad, search_range, search_taken, legal-low, legal-both, legal-high}
use Rattle.tree.proofs.TreeCallCases.{sound-tree}
use Rattle.tree.proofs.tree_search.Goals as goal

pub returns-then-words-lt-TREE_WORDS : goal.returns-then-words-lt-TREE_WORDS
returns-then-words-lt-TREE_WORDS c = search (search_short, rules)

pub returns-then-not-sound_words : goal.returns-then-not-sound_words
returns-then-not-sound_words c = search (search_bad, rules)

pub returns-then-not-run_legal : goal.returns-then-not-run_legal
returns-then-not-run_legal c = search (search_range, rules)

pub returns : goal.returns
returns c = search (search_taken, rules)

pub search_runs-found-requires : goal.search_runs-found-requires
search_runs-found-requires c = search (legal-low, legal-both, legal-high, sound-tree, rules)
