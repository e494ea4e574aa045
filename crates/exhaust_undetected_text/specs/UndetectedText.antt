-- The lines on the faults that a store does not hold: how many they are, and one fault.
use Rattle.std.specs.Prelude.{List, ◌++◌, ℕ}
use Rattle.model.specs.Path.{edge_of_fault, path_of_fault}
use Rattle.text_line.specs.Decimal.{decimal_text}
use Rattle.text_line.specs.Lines.{ascii}
use Rattle.report_claim_words.specs.ClaimWords.{edge_word}

-- `undetected 3`
unfoldable pub count_text : ℕ → List ℕ
count_text n = ascii "undetected " ++ decimal_text n

-- `fault 3: rising, path 2`
unfoldable pub fault_text : ℕ → List ℕ
fault_text f = ascii "fault " ++ decimal_text f ++ ascii ": " ++ edge_word (edge_of_fault f) ++ ascii ", path " ++ decimal_text (path_of_fault f)
