-- What is said of a refused report, line by line.
use Rattle.std.specs.Prelude.{Bool, true, false, List, ◌++◌, ℕ, ◌-◌, min, ltb}
use Rattle.path_faults.specs.Answers.{model_edge}
use Rattle.path_faults.specs.declared.Edge.{Edge}
use Rattle.text_line.specs.Decimal.{decimal_text}
use Rattle.text_line.specs.Lines.{ascii}
use Rattle.text_percent.specs.Shares.{claimed_share, true_share}
use Rattle.report_claim_words.specs.ClaimWords.{edge_word, kind_text, field_name, paths_text, plural_text}
use Rattle.report_claim_words.specs.declared.Kind.{Kind}
use Rattle.report_claim_words.specs.declared.Field.{Field}

-- `false claim, rising, paths 2 to 3`; `detected, not robustly, rising, path 2`; `missed, falling, path 7`
unfoldable pub claim_text : Kind → Edge → ℕ → ℕ → List ℕ
claim_text k e low high = kind_text k ++ ascii ", " ++ edge_word (model_edge e) ++ ascii ", " ++ paths_text low high

-- `and 5 more false claims`
unfoldable pub more_text : Kind → ℕ → List ℕ
more_text k count = ascii "and " ++ decimal_text count ++ ascii " more " ++ plural_text k count

-- `tests: claimed 4, true 3`
unfoldable pub field_text : Field → ℕ → ℕ → List ℕ
field_text f claimed truth =
    field_name f ++ ascii ": claimed " ++ decimal_text claimed ++ ascii ", true " ++ decimal_text truth

-- `rising faults: claimed 2 (66.6 % of 3 paths), true 1 (33.3 %)`
unfoldable pub faults_text : Edge → ℕ → ℕ → ℕ → List ℕ
faults_text e claimed truth paths =
    edge_word (model_edge e)
    ++ ascii " faults: claimed "
    ++ decimal_text claimed
    ++ claimed_share claimed paths
    ++ ascii ", true "
    ++ decimal_text truth
    ++ true_share truth paths

-- `rising run 5 of the report (9 to 3) is out of order`
unfoldable pub order_text : Edge → ℕ → ℕ → ℕ → List ℕ
order_text e number low high =
    edge_word (model_edge e)
    ++ ascii " run "
    ++ decimal_text number
    ++ ascii " of the report ("
    ++ decimal_text low
    ++ ascii " to "
    ++ decimal_text high
    ++ ascii ") is out of order"

-- how many of 20 lines are left beside those of the other kind: ten at the least
unfoldable pub room_beside_of : ℕ → ℕ
room_beside_of others = elim (ltb others 10) [ true ↦ 20 - others | false ↦ 10 ]

-- how many of the lines of one kind are shown: all where all are asked for; else as many as there is room for beside those of the other kind
unfoldable pub shown_of : ℕ → ℕ → Bool → ℕ
shown_of lines others true = lines
shown_of lines others false = min lines (room_beside_of others)
