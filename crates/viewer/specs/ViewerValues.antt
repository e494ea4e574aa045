-- What a viewer learns from the values that the functions return, of two stores that tests left.
use Rattle.std.specs.Prelude.{◌≡◌, Bool, List, ℕ}
use Rattle.model.specs.Base.{value}
use Rattle.model.specs.Netlist.{Netlist}
use Rattle.model.specs.Read.{read_netlist}
use Rattle.model.specs.Demand3.{Call, start, after_calls}
use Rattle.model.specs.Counted.{EachTaken}
use Rattle.store.specs.Answers.{totals_among}
use Rattle.viewer_places.specs.Viewer.{viewer_totals_call, viewer_fault_call, AgreeAll}
use Rattle.viewer.specs.ViewAnswers.{ViewTrue}
use Rattle.std.specs.Prelude.{Result}
use Rattle.model.specs.declared.Refusal.{Refusal}
use Rattle.store_words.specs.declared.inner.StoreTotals.{StoreTotals}
use Rattle.model.specs.Returned.{answer_of}

-- any values that meet the promises of the three calls, of the one store and of the other, and any words that they leave in a second store
pub record SameValues (netlist places ws ws' : List ℕ) : Type 0 where
  pub totals : (r r' : Result StoreTotals Refusal) → totals_among r ≡ viewer_totals_call netlist ws places → totals_among r' ≡ viewer_totals_call netlist ws' places
      → totals_among r ≡ totals_among r'
  pub faults : (fault : ℕ) (r r' : Result Bool Refusal) → answer_of r ≡ viewer_fault_call netlist ws places fault → answer_of r' ≡ viewer_fault_call netlist ws' places fault
      → answer_of r ≡ answer_of r'
  pub runs : (r r' : Result (Unit {0}) Refusal) (second left left' : List ℕ) → ViewTrue r netlist ws places second left → ViewTrue r' netlist ws' places second left'
      → (answer_of r ≡ answer_of r') × (left ≡ left')

-- A viewer learns nothing of inputs from which no output of his can be reached
abbrev pub ValuesTell : Type 0
ValuesTell =
    (netlist : List ℕ) (N : Netlist) → read_netlist netlist ≡ value N → (places : List ℕ) (cs ds : List Call)
    → EachTaken netlist N start cs → EachTaken netlist N start ds → AgreeAll N places cs ds
    → SameValues netlist places (after_calls netlist N start cs).store (after_calls netlist N start ds).store
