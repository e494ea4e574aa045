-- The lines on faults that are not held: each is its parts one after the other, and none is longer than 128 bytes.
use Rattle.model.proofs.Prelude.{ℕ, ◌≤◌, ◌≡◌, ap, ap₂, List, ◌++◌, length, length-append, arith}
use Rattle.model.specs.Path.{edge_of_fault, path_of_fault}
use Rattle.path_faults.specs.Answers.{model_edge}
use Rattle.path_faults.specs.declared.Edge.{Edge}
use Rattle.text_line.specs.Decimal.{decimal_text}
use Rattle.text_line.specs.Lines.{ascii}
use Rattle.text_line.proofs.DecimalLaws.{at-most-20}
use Rattle.report_claim_words.specs.ClaimWords.{edge_word}
use Rattle.report_claim_words.proofs.WordLengths.{edge-short}
use Rattle.exhaust_undetected_text.specs.UndetectedText.{count_text, fault_text}

pub count-short : (n : ℕ) → length (count_text n) ≤ 128
unfolding count_text
count-short n = simp length-append (omega (arith, at-most-20 n))

pub fault-short : (f : ℕ) → length (fault_text f) ≤ 128
unfolding fault_text
fault-short f = simp length-append (omega (arith, at-most-20 f, at-most-20 (path_of_fault f), edge-short (edge_of_fault f)))

-- the parts as the code puts them
pub fault-parts : (f p : ℕ) (d : Edge) → model_edge d ≡ edge_of_fault f → p ≡ path_of_fault f
    → ascii "fault " ++ decimal_text f ++ ascii ": " ++ edge_word (model_edge d) ++ ascii ", path " ++ decimal_text p ≡ fault_text f
unfolding fault_text
fault-parts f p d e q =
    ap₂ (λ (w : List ℕ) (k : ℕ). ascii "fault " ++ decimal_text f ++ ascii ": " ++ w ++ ascii ", path " ++ decimal_text k) (ap edge_word e) q
