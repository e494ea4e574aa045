-- What the calls on fault numbers answer, by document 01's numbers and values.
use Rattle.std.specs.Prelude.{[], ◌∷◌, ℕ}
use Rattle.model.specs.Base.{Answer, value, checks, ◌then◌}
use Rattle.model.specs.Netlist.{max_count}
use Rattle.model.specs.Path.{rising, falling, fault_number}
use Rattle.model.specs.Path as model
use Rattle.model.specs.Read.{within}
use Rattle.model.specs.Returned.{answer_by}
use Rattle.path_faults.specs.declared.Edge.{Edge}
use Rattle.path_faults.specs.declared.Edge.TheVariants as edge
use Rattle.std.specs.Prelude.{Result}
use Rattle.model.specs.declared.Refusal.{Refusal}
use Rattle.path_faults.specs.declared.FaultNo.{FaultNo}

-- the edge that the code's `Edge` stands for
abbrev pub model_edge : Edge → model.Edge
model_edge edge.Rising = rising
model_edge edge.Falling = falling

-- Path i has faults 2i - 1 (rising) and 2i (falling); 60 for a number that is no path's, not 1 to 2^62
unfoldable pub fault_call_of : model.Edge → ℕ → Answer ℕ
fault_call_of e i = checks ((60, within 1 max_count i) ∷ []) then value (fault_number e i)

abbrev pub fault_answer : Result FaultNo Refusal → Answer ℕ
fault_answer = answer_by (λ f. f.0)
