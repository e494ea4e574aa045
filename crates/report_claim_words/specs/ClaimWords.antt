-- The words of the lines on a refused report.
use Rattle.std.specs.Prelude.{true, false, List, ◌++◌, ℕ, eqb}
use Rattle.model.specs.Path.{Edge, rising, falling}
use Rattle.text_line.specs.Decimal.{decimal_text}
use Rattle.text_line.specs.Lines.{ascii}
use Rattle.report_claim_words.specs.declared.Kind.{Kind}
use Rattle.report_claim_words.specs.declared.Kind.TheVariants as kind
use Rattle.report_claim_words.specs.declared.Field.{Field}
use Rattle.report_claim_words.specs.declared.Field.TheVariants as field

abbrev pub edge_word : Edge → List ℕ
edge_word rising = ascii "rising"
edge_word falling = ascii "falling"

-- what is wrong with numbers of paths
abbrev pub kind_text : Kind → List ℕ
kind_text kind.FalseClaim = ascii "false claim"
kind_text kind.NotRobust = ascii "detected, not robustly"
kind_text kind.Missed = ascii "missed"

-- one path, or the first and the last of several
unfoldable pub paths_text : ℕ → ℕ → List ℕ
paths_text low high =
    elim (eqb low high) [
      | true ↦ ascii "path " ++ decimal_text low
      | false ↦ ascii "paths " ++ decimal_text low ++ ascii " to " ++ decimal_text high
    ]

-- what is wrong, for a number of such lines
unfoldable pub plural_text : Kind → ℕ → List ℕ
plural_text kind.FalseClaim count = elim (eqb count 1) [ true ↦ ascii "false claim" | false ↦ ascii "false claims" ]
plural_text kind.NotRobust count = ascii "detected, not robustly"
plural_text kind.Missed count = ascii "missed"

abbrev pub field_name : Field → List ℕ
field_name field.Tests = ascii "tests"
field_name field.Paths = ascii "paths"
field_name field.RisingRuns = ascii "rising runs"
field_name field.FallingRuns = ascii "falling runs"
