-- What the reading call answers, by document 01's numbers and values, and the numbers that it works with.
use Rattle.std.specs.Prelude.{Bool, true, false, List, ℕ}
use Rattle.model.specs.Base.{Answer}
use Rattle.model.specs.Netlist.{Netlist}
use Rattle.model.specs.Path.{valid_at, number_at, number_of}
use Rattle.model.specs.Returned.{answer_by}
use Rattle.model.specs.Calls.{is_path, path_in}
use Rattle.std.specs.Prelude.{Result}
use Rattle.model.specs.declared.Refusal.{Refusal}
use Rattle.path_faults.specs.declared.PathNo.{PathNo}

-- Path to number: a path number, or the number of the refusal
abbrev pub number_answer : Result PathNo Refusal → Answer ℕ
number_answer = answer_by (λ p. p.0)

-- the number if the test passes, else 0
abbrev pub or_zero : Bool → ℕ → ℕ
or_zero true k = k
or_zero false k = 0

-- the number of the partial path of `net` with the pins `ps`, 0 where they are none
unfoldable pub partial_number : Netlist → ℕ → List ℕ → ℕ
partial_number N net ps = or_zero (valid_at N net ps) (number_at N net ps)

-- the number of the path in the words, 0 where they are none
unfoldable pub number_in : Netlist → List ℕ → ℕ
number_in N ws = or_zero (is_path N ws) (number_of N (path_in ws))
