-- Many questions with one check of the words: each number has an answer word of its own.
use Rattle.std.specs.Prelude.{◌≡◌, true, false, ◌&&◌, List, [], ◌∷◌, ℕ, leb}
use Rattle.model.specs.Base.{Answer, value, ◌then◌, checks, after}
use Rattle.model.specs.Runs.{Run, in_runs}
use Rattle.tree_words.specs.TreeLayout.{levels_in, tree_runs}
use Rattle.tree_words.specs.Calls.{max_number, length_rule, words_rule}
use Rattle.std.specs.Prelude.{Result}
use Rattle.model.specs.declared.Refusal.{Refusal}
use Rattle.model.specs.Returned.{answer_of}

-- the answer word of a number: 1 where it is held, 0 where it is not, 60 where it is no path number
unfoldable pub held_word_of : List Run → ℕ → ℕ
held_word_of rs k = elim (leb 1 k && leb k max_number) [ true ↦ elim (in_runs rs k) [ true ↦ 1 | false ↦ 0 ] | false ↦ 60 ]

-- the answer words of the numbers `ks` over the words `os`, for as many numbers as there are words
unfoldable pub held_words : List Run → List ℕ → List ℕ → List ℕ
held_words rs [] os = os
held_words rs (k ∷ ks) [] = []
held_words rs (k ∷ ks) (a ∷ os) = held_word_of rs k ∷ held_words rs ks os

-- The call: refused by 87 and 88 alone; the tree's levels, as many as the nodes on the way to each answer (`TreesTrue`)
unfoldable pub each_call : List ℕ → Answer ℕ
each_call ws = checks (length_rule ws ∷ words_rule ws ∷ []) then value (levels_in ws)

-- its answer, and the answer words afterwards
pub record EachTrue (r : Result ℕ Refusal) (ws ks os os' : List ℕ) : Type 0 where
  pub answer : answer_of r ≡ each_call ws
  pub words : os' ≡ after (each_call ws) os (λ n. held_words (tree_runs ws) ks os)
