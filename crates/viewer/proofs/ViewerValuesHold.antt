-- The values that a viewer is returned are the same where the tests agree for him: by the promises of the calls and the law of their definitions.
use Rattle.model.proofs.Prelude.{ℕ, ◌∙◌, sym, List}
use Rattle.model.specs.Demand3.{start, after_calls}
use Rattle.viewer_places.specs.Viewer.{SameAnswers}
use Rattle.viewer_places.proofs.ViewerHolds.{non_interference}
use Rattle.viewer.specs.ViewerValues.{SameValues, ValuesTell}

same-values : (netlist places ws ws' : List ℕ) → SameAnswers netlist places ws ws' → SameValues netlist places ws ws'
same-values netlist places ws ws' s = record {
  totals = λ r r' p q. p ∙ s.totals ∙ sym q;
  faults = λ fault r r' p q. p ∙ s.faults fault ∙ sym q;
  runs = λ r r' second left left' p q. (p.answer ∙ s.runs second ∙ sym q.answer, p.words ∙ s.words second ∙ sym q.words);
}

pub values_tell : ValuesTell
values_tell netlist N e places cs ds p q a =
    same-values netlist places (after_calls netlist N start cs).store (after_calls netlist N start ds).store (non_interference netlist N e places cs ds p q a)
