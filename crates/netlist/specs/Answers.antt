-- What a survey and loading a netlist answer, by document 01's numbers and by the netlist that was read.
use Rattle.std.specs.Prelude.{◌≡◌, List, ℕ}
use Rattle.model.specs.Base.{Answer, refused}
use Rattle.model.specs.Netlist.{Netlist, path_total}
use Rattle.model.specs.Read.{read_netlist}
use Rattle.model.specs.Refusals.{refusal_number_of}
use Rattle.model.specs.Calls.{Survey}
use Rattle.netlist.specs.Tables.{CircuitTables}
use Rattle.netlist.specs.declared.NetlistSurvey.{NetlistSurvey}
use Rattle.netlist.specs.declared.inner.Shape.{Shape}
use Rattle.netlist.specs.declared.inner.Loaded.{Loaded}
use Rattle.std.specs.Prelude.{Result, Ok, Err}
use Rattle.model.specs.declared.Refusal.{Refusal}
use Rattle.netlist.specs.declared.inner.LegalNetlist.{LegalNetlist}
use Rattle.model.specs.Returned.{answer_by}

-- The survey: counts of 512 nets, I, G, U and T as one record
abbrev pub survey_in : NetlistSurvey → Survey
survey_in s = record { inputs = s.inputs; gates = s.gates; outputs = s.outputs; paths = s.total; net_counts = s.counts }

-- the survey call's answer: the number of a refusal, or what was counted
abbrev pub surveyed_of : Result NetlistSurvey Refusal → Answer Survey
surveyed_of = answer_by survey_in

-- the tables of the netlist that was read, and its total
pub record LegalLoad (file counts positions : List ℕ) (shape : Shape) (total : ℕ) : Type 0 where
  pub circuit : Netlist
  pub tables : CircuitTables circuit file positions counts shape
  pub total_is : total ≡ path_total circuit

-- loading a netlist: its tables are in the arrays, or the number is that of the refusal
abbrev pub LoadTrue : Result LegalNetlist Refusal → List ℕ → List ℕ → List ℕ → Type 0
LoadTrue (Ok l) file counts positions = LegalLoad file counts positions l.shape l.total
LoadTrue (Err w) file counts positions = read_netlist file ≡ refused (refusal_number_of w)

-- the same of the tables by value
abbrev pub LoadedTrue : Result Loaded Refusal → List ℕ → Type 0
LoadedTrue (Ok l) file = LegalLoad file l.counts l.positions l.shape l.total
LoadedTrue (Err w) file = read_netlist file ≡ refused (refusal_number_of w)
