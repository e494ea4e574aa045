-- Small circuits, stores and viewers, and what they must be answered, worked by hand.
use Rattle.std.specs.Prelude.{Bool, true, false, List, [], ◌∷◌, ◌++◌, ℕ, replicate}
use Rattle.model.specs.Base.{Answer, refused, value, ◌into◌}
use Rattle.model.specs.Runs.{run}
use Rattle.model.specs.Store.{store_words_count}
use Rattle.model.specs.Encode.{header_bytes, gate_bytes, output_bytes}
use Rattle.model.specs.Examples.{with_outputs, holding}
use Rattle.viewer_places.specs.Viewer.{viewer_totals_call, viewer_runs_call, viewer_runs_store, viewer_fault_call}

-- what is asked: the totals, the words of a second store that held a seven in each, or one fault
pub data Question : Type 0 where
  totals runs : Question
  holds : ℕ → Question

pub record Example : Type 0 where
  pub netlist : List ℕ
  pub store : List ℕ
  pub places : List ℕ
  pub question : Question
  pub answer : Answer (List ℕ)

-- an example of a refusal
abbrev pub no_example : Example
no_example = record { netlist = []; store = []; places = []; question = totals; answer = refused 1 }

abbrev pub as_number : Bool → ℕ
as_number true = 1
as_number false = 0

abbrev pub sevens : List ℕ
sevens = replicate store_words_count 7

-- an answer as numbers
unfoldable pub answered : List ℕ → List ℕ → List ℕ → Question → Answer (List ℕ)
answered netlist ws places totals = viewer_totals_call netlist ws places into λ p. value (p.on_rising ∷ p.on_falling ∷ [])
answered netlist ws places runs = viewer_runs_call netlist ws sevens places into λ p. value (viewer_runs_store netlist ws sevens places)
answered netlist ws places (holds fault) = viewer_fault_call netlist ws places fault into λ b. value (as_number b ∷ [])

-- net 2 AND of 0 and 1, net 3 OR of 2 and 1; outputs 2 (paths 1 and 2) and 3 (paths 3 to 5)
unfoldable pub two : List ℕ
two = with_outputs (2 ∷ 3 ∷ [])

-- besides net 4 AND of 2 and 3, an output too: paths 6 to 10
unfoldable pub three : List ℕ
three = header_bytes 2 3 3 ++ gate_bytes 3 (0 ∷ 1 ∷ []) ++ gate_bytes 5 (2 ∷ 1 ∷ []) ++ gate_bytes 3 (2 ∷ 3 ∷ [])
    ++ output_bytes 2 ++ output_bytes 3 ++ output_bytes 4

-- what all twelve pairs of the two inputs leave
unfoldable pub full : List ℕ
full = holding 12 (run 1 2 ∷ run 5 5 ∷ []) (run 1 2 ∷ run 4 5 ∷ [])

-- a run over all outputs, and one over the second and the third
unfoldable pub spanning : List ℕ
spanning = holding 3 (run 2 7 ∷ []) (run 5 6 ∷ run 9 9 ∷ [])

unfoldable pub asked : List ℕ → List ℕ → List ℕ → Question → Answer (List ℕ) → Example
asked n s p q a = record { netlist = n; store = s; places = p; question = q; answer = a }

unfoldable pub examples : List Example
examples =
    -- each viewer is told of his own outputs
    asked two full (0 ∷ []) totals (value (2 ∷ 2 ∷ []))
    ∷ asked two full (1 ∷ []) totals (value (1 ∷ 2 ∷ []))
    ∷ asked two full (0 ∷ 1 ∷ []) totals (value (3 ∷ 4 ∷ []))
    ∷ asked two full (1 ∷ []) runs (value (holding 12 (run 5 5 ∷ []) (run 4 5 ∷ [])))
    -- the places: empty, not ascending, twice the same, not below U; what is wrong with the store is said first
    ∷ asked two full [] totals (refused 89)
    ∷ asked two full (1 ∷ 0 ∷ []) runs (refused 89)
    ∷ asked two full (1 ∷ 1 ∷ []) totals (refused 89)
    ∷ asked two full (2 ∷ []) (holds 1) (refused 89)
    ∷ asked two (holding 1 (run 6 6 ∷ []) []) [] totals (refused 41)
    ∷ asked two [] [] runs (refused 1)
    -- a fault of the viewer's, held or not, and of another output; 60 is judged by the whole T
    ∷ asked two full (1 ∷ []) (holds 9) (value (1 ∷ []))
    ∷ asked two full (1 ∷ []) (holds 5) (value (0 ∷ []))
    ∷ asked two full (1 ∷ []) (holds 4) (refused 90)
    ∷ asked two full (0 ∷ []) (holds 10) (refused 90)
    ∷ asked two full (0 ∷ []) (holds 11) (refused 60)
    ∷ asked two full (0 ∷ []) (holds 0) (refused 60)
    -- a run that spans another's output is split, neighbours' outputs are one range, numbers stay those of the whole netlist
    ∷ asked three spanning (0 ∷ 2 ∷ []) runs (value (holding 3 (run 2 2 ∷ run 6 7 ∷ []) (run 6 6 ∷ run 9 9 ∷ [])))
    ∷ asked three spanning (0 ∷ 2 ∷ []) totals (value (3 ∷ 2 ∷ []))
    ∷ asked three spanning (1 ∷ 2 ∷ []) runs (value (holding 3 (run 3 7 ∷ []) (run 5 6 ∷ run 9 9 ∷ [])))
    ∷ asked three spanning (1 ∷ []) runs (value (holding 3 (run 3 5 ∷ []) (run 5 5 ∷ [])))
    -- an output without a gate: nothing to see, and no refusal
    ∷ asked (header_bytes 2 1 2 ++ gate_bytes 3 (0 ∷ 1 ∷ []) ++ output_bytes 1 ++ output_bytes 2) (holding 1 (run 1 2 ∷ []) []) (0 ∷ []) totals (value (0 ∷ 0 ∷ []))
    ∷ asked (header_bytes 2 1 2 ++ gate_bytes 3 (0 ∷ 1 ∷ []) ++ output_bytes 1 ++ output_bytes 2) (holding 1 (run 1 2 ∷ []) []) (0 ∷ []) (holds 1) (refused 90)
    ∷ []
