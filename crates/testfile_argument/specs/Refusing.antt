-- The line on a refusal: its number, and the place of a test record.
use Rattle.std.specs.Prelude.{true, false, List, ◌++◌, ℕ, ◌+◌, min}
use Rattle.text_line.specs.Decimal.{decimal_text, refused_text}
use Rattle.text_line.specs.Lines.{ascii}
use Rattle.report_verdict.specs.Verdict.{of_record}

-- the last place that is told: no file has so many records
abbrev pub last_place : ℕ
last_place = 18446744073709551615

-- `refused 33`; for a test record, after so many that were taken, `record 4 refused 50`
unfoldable pub refused_line_of : ℕ → ℕ → List ℕ
refused_line_of number taken =
    elim (of_record number) [
      | true ↦ ascii "record " ++ decimal_text (min (taken + 1) last_place) ++ ascii " " ++ refused_text number
      | false ↦ refused_text number
    ]
