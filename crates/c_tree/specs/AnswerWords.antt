-- The run that a search finds and the answer to a question, as their answer words are written.
use Rattle.std.specs.Prelude.{cond, List, [], ◌∷◌, ℕ}
use Rattle.tree_words.specs.Calls.{Found, none, found, Asked}

-- a search: 1 and the run found, or zeros
abbrev pub found_words : Found → List ℕ
found_words none = 0 ∷ 0 ∷ 0 ∷ []
found_words (found r) = 1 ∷ r.low ∷ r.high ∷ []

-- a question: 1 if the number is held, else 0, then the nodes visited
abbrev pub asked_words : Asked → List ℕ
asked_words a = cond a.held 1 0 ∷ a.visited ∷ []
