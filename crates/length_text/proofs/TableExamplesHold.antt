-- Tables computed from the definitions: document 01's circuit Q after its three tests, and numbers that no circuit has.
use Rattle.model.proofs.Prelude.{◌≡◌, refl, [], ◌∷◌, ◌++◌}
use Rattle.text_line.specs.Decimal.{digits_of, decimal_text}
use Rattle.text_line.specs.Lines.{ascii}
use Rattle.text_percent.specs.Shares.{percent_text}
use Rattle.text_buffer.specs.Written.{plain_line, each_below_of}
use Rattle.length_text.specs.LengthTable.{aligned, held_share, row_text, length_row, total, table_text}

-- path 3 goes through one gate, paths 1 and 2 through two; the rising fault of path 3 is held, and the falling ones of paths 2 and 3
pub q_table-holds :
    table_text (0 ∷ 1 ∷ 2 ∷ []) (0 ∷ 1 ∷ 0 ∷ []) (0 ∷ 1 ∷ 1 ∷ [])
    ≡ (plain_line (ascii "length               paths         rising held        falling held  percent")
    ++ plain_line (ascii "     1                   1                   1                   1  100.0 %")
    ++ plain_line (ascii "     2                   2                   0                   1   25.0 %")
    ++ plain_line (ascii "   all                   3                   1                   2   50.0 %"))
unfolding digits_of decimal_text percent_text each_below_of aligned held_share row_text length_row total table_text
q_table-holds = refl

-- more faults held than there are paths; the most paths of a circuit, with one fault missed
pub shares_hold :
    (held_share 2 3 0 ≡ ascii "-") × (held_share 0 0 0 ≡ ascii "-") × (held_share 4611686018427387904 4611686018427387904 4611686018427387903 ≡ ascii "99.9 %")
unfolding digits_of decimal_text percent_text held_share
shares_hold = (refl, refl, refl)
