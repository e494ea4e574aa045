-- The worked examples hold: what small words are is computed from the definitions; insertion and deletion follow from the laws of the runs kept.
use Rattle.model.proofs.Prelude.{◌≡◌, refl, sym, true, false, [], ◌∷◌, arith}
use Rattle.model.specs.Runs.{size, in_runs}
use Rattle.tree_words.specs.TreeLayout.{tree_at, tree_runs, in_space, leaf_true_of, leaf_sound_of, two_sound_of, three_sound_of, children_sound, node_sound_of, sound_at_of, sound_from, sound_words_of}
use Rattle.tree_words.specs.Calls.{run_of, none, found, first_run_of, search_runs_of, runs_with, runs_without, stored}
use Rattle.tree_words.specs.Nodes.{Sep}
use Rattle.tree_words.specs.KeptRuns.{keep_below, keep_above}
use Rattle.tree_descent.specs.Descent.{last_run}
use Rattle.tree_lookup.specs.Lookup.{low_end, high_end}
use Rattle.tree_lookup.proofs.MergeLaws.{merged-with}
use Rattle.tree_lookup.proofs.RemoveLaws.{removed-without}
use Rattle.tree.specs.Each.{held_word_of, held_words}
use Rattle.tree.specs.Examples.{two_leaves, two_runs_of, three_leaves, three_runs, wrong_total, one_child, one_level_more, wrong_leaf, wrong_free, adjacent_leaves}

-- ---- words that are a tree

pub two-sound : sound_words_of two_leaves ≡ true
unfolding sound_words_of sound_from sound_at_of node_sound_of children_sound two_sound_of leaf_sound_of leaf_true_of in_space tree_at
two-sound = refl

pub two_runs : tree_runs two_leaves ≡ two_runs_of
unfolding tree_runs tree_at
two_runs = refl

pub three-sound : sound_words_of three_leaves ≡ true
unfolding sound_words_of sound_from sound_at_of node_sound_of children_sound three_sound_of leaf_sound_of leaf_true_of in_space tree_at
three-sound = refl

pub three-runs : tree_runs three_leaves ≡ three_runs
unfolding tree_runs tree_at
three-runs = refl

pub three-total : size three_runs ≡ 4
unfolding size
three-total = refl

-- ---- words that are none

pub wrong_total_lem : sound_words_of wrong_total ≡ false
unfolding sound_words_of sound_from sound_at_of node_sound_of children_sound two_sound_of leaf_sound_of leaf_true_of in_space tree_at
wrong_total_lem = refl

pub one-child : sound_words_of one_child ≡ false
unfolding sound_words_of sound_from sound_at_of node_sound_of children_sound two_sound_of leaf_sound_of leaf_true_of in_space tree_at
one-child = refl

pub one-level_more : sound_words_of one_level_more ≡ false
unfolding sound_words_of sound_from sound_at_of node_sound_of children_sound two_sound_of leaf_sound_of leaf_true_of in_space tree_at
one-level_more = refl

pub wrong_leaf_lem : sound_words_of wrong_leaf ≡ false
unfolding sound_words_of sound_from sound_at_of node_sound_of children_sound two_sound_of leaf_sound_of leaf_true_of in_space tree_at
wrong_leaf_lem = refl

pub wrong_free_lem : sound_words_of wrong_free ≡ false
unfolding sound_words_of sound_from sound_at_of node_sound_of children_sound two_sound_of leaf_sound_of leaf_true_of in_space tree_at
wrong_free_lem = refl

pub adjacent-leaves : sound_words_of adjacent_leaves ≡ false
unfolding sound_words_of sound_from sound_at_of node_sound_of children_sound two_sound_of leaf_sound_of leaf_true_of in_space tree_at
adjacent-leaves = refl

-- ---- search: an overlapping run before an adjacent one, the lower of two that are adjacent

pub search_overlap : search_runs_of two_runs_of (run_of 2 6) ≡ found (run_of 1 3)
unfolding search_runs_of first_run_of
search_overlap = refl

pub search_lower : search_runs_of two_runs_of (run_of 4 4) ≡ found (run_of 1 3)
unfolding search_runs_of first_run_of
search_lower = refl

pub search_upper : search_runs_of two_runs_of (run_of 6 9) ≡ found (run_of 5 5)
unfolding search_runs_of first_run_of
search_upper = refl

pub search_none : search_runs_of two_runs_of (run_of 7 9) ≡ none
unfolding search_runs_of first_run_of
search_none = refl

-- ---- insertion merges what it touches, deletion takes one run

two-apart : Sep two_runs_of
two-apart = (omega arith, omega arith, omega arith, (omega arith, omega arith, omega arith, tt))

three-apart : Sep three_runs
three-apart = (omega arith, omega arith, omega arith, (omega arith, omega arith, omega arith, (omega arith, omega arith, omega arith, tt)))

pub insert_between : runs_with two_runs_of (run_of 4 4) ≡ run_of 1 5 ∷ []
unfolding keep_below keep_above low_end high_end first_run_of last_run
insert_between = sym (merged-with 4 4 (omega arith) (omega arith) two_runs_of two-apart (omega arith))

pub insert_apart : runs_with three_runs (run_of 7 7) ≡ run_of 2 2 ∷ run_of 4 5 ∷ run_of 7 7 ∷ run_of 9 9 ∷ []
unfolding keep_below keep_above low_end high_end first_run_of last_run
insert_apart = sym (merged-with 7 7 (omega arith) (omega arith) three_runs three-apart (omega arith))

pub delete_middle : runs_without three_runs (run_of 4 5) ≡ run_of 2 2 ∷ run_of 9 9 ∷ []
unfolding keep_below keep_above stored
delete_middle = sym (removed-without 4 5 three_runs three-apart refl)

-- ---- many questions: held, not held, no path number; there is no place for the fourth answer

pub three-answers : held_words two_runs_of (2 ∷ 4 ∷ 0 ∷ 5 ∷ []) (9 ∷ 9 ∷ 9 ∷ []) ≡ 1 ∷ 0 ∷ 60 ∷ []
unfolding held_words held_word_of in_runs
three-answers = refl

pub one_answer : held_words two_runs_of (5 ∷ []) (9 ∷ 9 ∷ []) ≡ 1 ∷ 9 ∷ []
unfolding held_words held_word_of in_runs
one_answer = refl
