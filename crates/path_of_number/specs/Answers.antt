-- What the writing call answers, by document 01's numbers and values.
use Rattle.std.specs.Prelude.{◌≡◌, List, ℕ}
use Rattle.model.specs.Base.{Answer, refused, value}
use Rattle.model.specs.Refusals.{refusal_number_of}
use Rattle.model.specs.Calls.{number_to_path_answer, number_to_path_buffer}
use Rattle.std.specs.Prelude.{Result, Ok, Err}
use Rattle.model.specs.declared.Refusal.{Refusal}
use Rattle.model.specs.Returned.{answer_of}

-- the writing call's answer, and its buffer afterwards
pub record PathWritten (r : Result (Unit {0}) Refusal) (netlist : List ℕ) (number : ℕ) (found left : List ℕ) : Type 0 where
  pub answer : answer_of r ≡ number_to_path_answer netlist number found
  pub buffer : left ≡ number_to_path_buffer netlist number found
