-- What a C function returns, and the words of its answer afterwards, for an answer of document 01.
-- Names: call is the answer by document 01, found the lent words before, left the lent words afterwards.
use Rattle.std.specs.Prelude.{◌≡◌, Bool, true, false, cond, List, [], ◌∷◌, ℕ, eqb}
use Rattle.std.proofs.lemmas.List.Edits.{sets}
use Rattle.model.specs.Base.{Answer, refused, value, passes, after}
use Rattle.model.specs.Path.{Edge, rising, falling}
use Rattle.model.specs.Store.{ByEdge}
use Rattle.model.specs.Calls.{Survey, FaultCounts}

-- A C function's code: 0 says that the call was taken, any other number that it was refused with this number.
-- A promise `code_answer code ≡ call` also says that no refusal has the number 0: no code stands for `refused 0`
unfoldable pub code_answer : ℕ → Answer (Unit {0})
code_answer code = elim (eqb code 0) [ true ↦ value tt | false ↦ refused code ]

-- the answer words afterwards: those of the value stored one after another from the first word on, or as found if the call was refused.
-- The answer has as many words as its type states, and so has the value: none is left out
abbrev pub answer_after : {A : Type 0} → Answer A → (A → List ℕ) → List ℕ → List ℕ
answer_after call words found = after call found (λ a. sets found 0 (words a))

-- code and answer words are those of the call
pub record Answered {A : Type 0} (call : Answer A) (words : A → List ℕ) (code : ℕ) (found left : List ℕ) : Type 0 where
  pub code_is : code_answer code ≡ passes call
  pub answer_is : left ≡ answer_after call words found

-- I, G, U, T, then a count for each of 512 nets
abbrev pub survey_words : Survey → List ℕ
survey_words s = s.inputs ∷ s.gates ∷ s.outputs ∷ s.paths ∷ s.net_counts

-- rising, then falling
abbrev pub edge_words : ByEdge ℕ → List ℕ
edge_words n = n.on_rising ∷ n.on_falling ∷ []

-- new rising, new falling, held rising, held falling
abbrev pub count_words : FaultCounts → List ℕ
count_words n = n.new_faults.on_rising ∷ n.new_faults.on_falling ∷ n.held_faults.on_rising ∷ n.held_faults.on_falling ∷ []

abbrev pub number_word : ℕ → List ℕ
number_word n = n ∷ []

-- 1 for true, 0 for false
abbrev pub bool_word : Bool → List ℕ
bool_word b = cond b 1 0 ∷ []

-- the edge that a caller hands over as a number, 0 rising, 1 falling; 60 for another
unfoldable pub edge_in : ℕ → Answer Edge
edge_in n = elim (eqb n 0) [ true ↦ value rising | false ↦ elim (eqb n 1) [ true ↦ value falling | false ↦ refused 60 ] ]

-- the number of an edge, as a caller finds it: 0 rising, 1 falling
abbrev pub edge_number_of : Edge → ℕ
edge_number_of rising = 0
edge_number_of falling = 1
