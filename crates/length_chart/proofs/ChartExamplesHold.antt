-- What is drawn for the lengths of document 01's circuit Q after its three tests, computed from the definitions.
use mathlib.Core.Path.{◌≡◌, refl}
use mathlib.Core.List.{[], ◌∷◌, ◌++◌}
use Rattle.text_line.specs.Decimal.{digits_of, decimal_text}
use Rattle.text_line.specs.Lines.{ascii}
use Rattle.text_buffer.specs.Written.{plain_line, each_below_of}
use Rattle.length_chart.specs.Chart.{longest_below, width_of, height_in, title_lines, bar_lines, group_lines, length_bars, bars_at}

-- of two paths through two gates no rising fault is held and one falling; nothing is drawn for length 0
pub q_bars_hold :
    length_bars 2 2 0 1
    ≡ (plain_line (ascii "<g transform='translate(248 240)'>")
    ++ plain_line (ascii "<title>length 2:")
    ++ plain_line (ascii "2 paths,")
    ++ plain_line (ascii "0 rising and")
    ++ plain_line (ascii "1 falling faults held</title>")
    ++ plain_line (ascii "<text x='9' y='18' text-anchor='middle'>2</text>")
    ++ plain_line (ascii "<path d='M0 0v-200h8v200zM10 0v-200h8v200z' fill='none' stroke='#666'/>")
    ++ plain_line (ascii "<path d='M0 0v-0h8V0z' fill='#0072B2'/>")
    ++ plain_line (ascii "<path d='M10 0v-100h8V0z' fill='#E69F00'/>")
    ++ plain_line (ascii "</g>"))
unfolding digits_of decimal_text height_in title_lines bar_lines group_lines length_bars
q_bars_hold = refl

-- the picture is as wide as the greatest length with a path asks; a bar near the most paths; more faults held than there are paths
pub measures_hold :
    (width_of (0 ∷ 1 ∷ 2 ∷ 0 ∷ []) ≡ 288)
    × (height_in 4611686018427387903 4611686018427387904 ≡ 199)
    × (height_in 3 2 ≡ 0)
    × (each_below_of (bars_at (0 ∷ []) (0 ∷ []) (0 ∷ [])) 1 ≡ [])
unfolding longest_below height_in length_bars each_below_of
measures_hold = (refl, refl, refl, refl)
