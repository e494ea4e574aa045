-- What the readers of outputs' records answer.
use Rattle.std.specs.Prelude.{ℕ, ◌+◌, ◌≤◌, ◌≡◌, List, map, length, drop}
use Rattle.model.specs.Base.{Answer, refused, value, checks, sum_of, field, ◌then◌}
use Rattle.model.specs.Netlist.{output_count}
use Rattle.model.specs.Read.{output_rules}
use Rattle.model.specs.Refusals.{refusal_number_of}
use Rattle.std.specs.Prelude.{Result, Ok, Err}
use Rattle.model.specs.declared.Refusal.{Refusal}
use Rattle.netlist_outputs.specs.declared.inner.OutputRead.{OutputRead}
use Rattle.netlist_outputs.specs.declared.inner.OutputsRead.{OutputsRead}

-- Output by output: the rules of one output, then its net and the sum with its count
unfoldable pub output_step : ℕ → ℕ → List ℕ → ℕ → ℕ → List ℕ → Answer OutputRead
output_step inputs nets cs low total bs =
    checks (output_rules inputs nets cs low total bs) then value (record { net = field 2 2 bs; total = total + output_count inputs cs (field 2 2 bs) })

-- the outputs were read up to a position, with their sum
pub record OutputsEnd (at total : ℕ) (file : List ℕ) (inputs : ℕ) (cs : List ℕ) (x : Answer (List ℕ × List ℕ)) : Type 0 where
  pub outputs : List ℕ
  pub read : x ≡ value (outputs, drop at file)
  pub total-is : total ≡ sum_of (map (output_count inputs cs) outputs)
  pub within : at ≤ length file

abbrev pub OutputsAre : Result OutputsRead Refusal → List ℕ → ℕ → List ℕ → Answer (List ℕ × List ℕ) → Type 0
OutputsAre (Ok r) file inputs cs x = OutputsEnd r.at r.total file inputs cs x
OutputsAre (Err w) file inputs cs x = x ≡ refused (refusal_number_of w)
