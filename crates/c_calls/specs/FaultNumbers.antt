-- What the conversions of path numbers and fault numbers answer, as a C caller hands them over.
use Rattle.std.specs.Prelude.{◌≡◌, List, [], ◌∷◌, ℕ, leb}
use Rattle.model.specs.Base.{Answer, value, checks, ◌into◌, ◌then◌}
use Rattle.model.specs.Path.{Edge, edge_of_fault, path_of_fault}
use Rattle.path_faults.specs.Answers.{fault_call_of}
use Rattle.c_answer_words.specs.Codes.{edge_in, edge_number_of, number_word}

-- The fault of a path number and of an edge, 0 rising, 1 falling: 60 for another edge, and for a number that is no path's
unfoldable pub fault_of_call : ℕ → ℕ → Answer ℕ
fault_of_call i n = edge_in n into λ e. fault_call_of e i

-- what a fault number says
pub record PathAndEdge : Type 0 where
  pub path : ℕ
  pub edge : Edge

-- The path number and the edge of a fault number: 60 for 0, which no fault has
unfoldable pub path_of_call : ℕ → Answer PathAndEdge
path_of_call f = checks ((60, leb 1 f) ∷ []) then value (record { path = path_of_fault f; edge = edge_of_fault f })

-- its two answers, each of one word
abbrev pub path_word : PathAndEdge → List ℕ
path_word p = number_word p.path

abbrev pub side_word : PathAndEdge → List ℕ
side_word p = number_word (edge_number_of p.edge)

-- A fault number that was answered leads back to the path number and the edge
abbrev pub LeadsBack : Type 0
LeadsBack = (i n f : ℕ) → fault_of_call i n ≡ value f → path_of_call f ≡ (edge_in n into λ e. value (record { path = i; edge = e }))
