-- Coverage by length as a picture in SVG, 280 high; the bars stand on the line at 240.
-- Names: paths, rising and falling are rows of 64 numbers or one number of each: the paths of a length, and how many of their rising and falling faults
-- are held; gates is a length.
use Rattle.std.specs.Prelude.{true, false, ◌&&◌, List, [], ◌++◌, ℕ, zero, suc, ◌+◌, ◌*◌, ◌/◌, ltb, leb, get_or}
use Rattle.text_line.specs.Lines.{ascii}
use Rattle.text_buffer.specs.Written.{plain_line, number_line, each_below_of}

-- the least bytes of a buffer for the picture
abbrev pub chart_bytes : ℕ
chart_bytes = 65536

-- the greatest length below `n` that has a path, 0 if none has
unfoldable pub longest_below : List ℕ → ℕ → ℕ
longest_below paths zero = 0
longest_below paths (suc n) = elim (ltb 0 (get_or paths n 0)) [ true ↦ n | false ↦ longest_below paths n ]

-- the width of the picture: room for the words on the left, and for each length up to the greatest
abbrev pub width_of : List ℕ → ℕ
width_of paths = 240 + 24 * longest_below paths 64

-- the height of a bar, of 200 for all paths, rounded down; 0 where there is no path or more is held than there are paths
unfoldable pub height_in : ℕ → ℕ → ℕ
height_in held paths = elim (ltb 0 paths && leb held paths) [ true ↦ held * 200 / paths | false ↦ 0 ]

-- the first lines
unfoldable pub head_lines : ℕ → List ℕ
head_lines width =
    plain_line (ascii "<svg xmlns='http://www.w3.org/2000/svg' font-family='sans-serif' font-size='12'")
    ++ number_line (ascii "width='") width (ascii "' height='280'")
    ++ number_line (ascii "viewBox='0 0 ") width (ascii " 280'>")
    ++ plain_line (ascii "<title>Coverage by length</title>")
    ++ plain_line (ascii "<rect width='100%' height='100%' fill='white'/>")

-- what the colours mean
unfoldable pub legend_lines : List ℕ
legend_lines =
    plain_line (ascii "<rect x='10' y='40' width='12' height='12' fill='#0072B2'/>")
    ++ plain_line (ascii "<text x='28' y='51'>rising faults held</text>")
    ++ plain_line (ascii "<rect x='10' y='60' width='12' height='12' fill='#E69F00'/>")
    ++ plain_line (ascii "<text x='28' y='71'>falling faults held</text>")
    ++ plain_line (ascii "<rect x='10' y='80' width='12' height='12' fill='none' stroke='#666'/>")
    ++ plain_line (ascii "<text x='28' y='91'>faults of all paths</text>")

-- the heading, lines across the picture at 0, 50 and 100 percent, and what stands along the axes
unfoldable pub scale_lines : List ℕ
scale_lines =
    plain_line (ascii "<text x='10' y='24' font-weight='bold'>Coverage by length</text>")
    ++ plain_line (ascii "<path d='M190 40h9999M190 140h9999M190 240h9999' stroke='#CCC'/>")
    ++ plain_line (ascii "<text x='184' y='44' text-anchor='end'>100 %</text>")
    ++ plain_line (ascii "<text x='184' y='144' text-anchor='end'>50 %</text>")
    ++ plain_line (ascii "<text x='184' y='244' text-anchor='end'>0 %</text>")
    ++ plain_line (ascii "<text x='184' y='258' text-anchor='end'>length in gates</text>")

-- the numbers of a length, which a browser shows where one points at its bars
unfoldable pub title_lines : ℕ → ℕ → ℕ → ℕ → List ℕ
title_lines gates paths rising falling =
    number_line (ascii "<title>length ") gates (ascii ":")
    ++ number_line [] paths (ascii " paths,")
    ++ number_line [] rising (ascii " rising and")
    ++ number_line [] falling (ascii " falling faults held</title>")

-- the outlines of all faults, then bars of two heights
unfoldable pub bar_lines : ℕ → ℕ → List ℕ
bar_lines rising falling =
    plain_line (ascii "<path d='M0 0v-200h8v200zM10 0v-200h8v200z' fill='none' stroke='#666'/>")
    ++ number_line (ascii "<path d='M0 0v-") rising (ascii "h8V0z' fill='#0072B2'/>")
    ++ number_line (ascii "<path d='M10 0v-") falling (ascii "h8V0z' fill='#E69F00'/>")

-- what is drawn for a length that has a path: its numbers, its name below, its bars
unfoldable pub group_lines : ℕ → ℕ → ℕ → ℕ → List ℕ
group_lines gates paths rising falling =
    number_line (ascii "<g transform='translate(") (200 + 24 * gates) (ascii " 240)'>")
    ++ title_lines gates paths rising falling
    ++ number_line (ascii "<text x='9' y='18' text-anchor='middle'>") gates (ascii "</text>")
    ++ bar_lines (height_in rising paths) (height_in falling paths)
    ++ plain_line (ascii "</g>")

-- what is drawn for a length; nothing where it has no path
unfoldable pub length_bars : ℕ → ℕ → ℕ → ℕ → List ℕ
length_bars gates paths rising falling = elim (ltb 0 paths) [ true ↦ group_lines gates paths rising falling | false ↦ [] ]

-- the same of rows
abbrev pub bars_at : List ℕ → List ℕ → List ℕ → ℕ → List ℕ
bars_at paths rising falling gates = length_bars gates (get_or paths gates 0) (get_or rising gates 0) (get_or falling gates 0)

-- The picture
unfoldable pub chart_text : List ℕ → List ℕ → List ℕ → List ℕ
chart_text paths rising falling =
    head_lines (width_of paths) ++ legend_lines ++ scale_lines ++ each_below_of (bars_at paths rising falling) 64 ++ plain_line (ascii "</svg>")
