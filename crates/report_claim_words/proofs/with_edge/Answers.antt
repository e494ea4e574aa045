-- `report_claim_words::with_edge` meets its contract: one text for each case of the edge.
use Rattle.model.proofs.Prelude.{ap, sym, rules}
use Rattle.path_faults.specs.Answers.{model_edge}
use Rattle.path_faults.specs.declared.Edge.{Edge}
use Rattle.report_claim_words.specs.ClaimWords.{edge_word}
use Rattle.text_line.proofs.LineLaws.{as_part}
use Rattle.report_claim_words.proofs.with_edge.Goals as goal

pub enum_told-1 : goal.enum_told-1
enum_told-1 c = search rules

pub returns-in-Rising : goal.returns-in-Rising
returns-in-Rising c = as_part _ _ _ _ c.with_text.ensures (sym (ap (λ (d : Edge). edge_word (model_edge d)) c.in-Rising.is))

pub returns-in-Falling : goal.returns-in-Falling
returns-in-Falling c = as_part _ _ _ _ c.with_text-in-Falling.ensures (sym (ap (λ (d : Edge). edge_word (model_edge d)) c.in-Falling.is))
