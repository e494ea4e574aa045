-- What the program `ask` prints: a line of answer for each line of its standard input.
-- Names: paths is the number of paths; up and down are the words of the trees of rising and of falling faults; ask is what answers a fault number;
-- place is the place of a line, from 1; 10 is the end of a line.
use Rattle.std.specs.Prelude.{Bool, true, false, ◌&&◌, List, [], ◌∷◌, ◌++◌, ℕ, ◌+◌, ◌-◌, ◌*◌, leb, eqb}
use Rattle.model.specs.Base.{Answer, refused, value, ◌then◌, checks}
use Rattle.model.specs.Path.{edge_of_fault, path_of_fault}
use Rattle.model.specs.Read.{within}
use Rattle.model.specs.Store.{of_edge}
use Rattle.text_line.specs.Decimal.{decimal_text}
use Rattle.text_line.specs.Lines.{ascii}
use Rattle.text_buffer.specs.Written.{number_line}
use Rattle.tree_words.specs.Calls.{Asked, holds_call}
use Rattle.ask_text.specs.declared.inner.Stated.{Stated}
use Rattle.ask_text.specs.declared.inner.Stated.TheVariants as stated

-- the tree of a fault's edge
abbrev pub tree_of : List ℕ → List ℕ → ℕ → List ℕ
tree_of up down fault = of_edge (record { on_rising = up; on_falling = down }) (edge_of_fault fault)

-- Asking for a fault: 60 where its number is not 1 to 2T, else its path number is asked of that tree
unfoldable pub fault_asked : ℕ → List ℕ → List ℕ → ℕ → Answer Asked
fault_asked paths up down fault =
    checks ((60, within 1 (2 * paths) fault) ∷ [])
    then holds_call (tree_of up down fault) (path_of_fault fault)

-- a number with one more decimal digit, up to the largest of 64 bits
unfoldable pub with_digit_of : ℕ → ℕ → Stated
with_digit_of n d = elim (leb (10 * n + d) 18446744073709551615) [ true ↦ stated.Number (10 * n + d) | false ↦ stated.Wrong ]

-- what a line states with one more byte on it: a number, as long as there are decimal digits alone
abbrev pub digit_after : Stated → ℕ → Stated
digit_after stated.Nothing d = stated.Number d
digit_after (stated.Number n) d = with_digit_of n d
digit_after stated.Wrong d = stated.Wrong

unfoldable pub byte_after_of : Stated → ℕ → Stated
byte_after_of s b = elim (leb 48 b && leb b 57) [ true ↦ digit_after s (b - 48) | false ↦ stated.Wrong ]

-- what the bytes of a line state: nothing where there are none
unfoldable pub stated_by : Stated → List ℕ → Stated
stated_by s [] = s
stated_by s (b ∷ bs) = stated_by (byte_after_of s b) bs

-- `5 held, nodes visited: 3`, `6 not held, nodes visited: 3`, `99 refused 60`
abbrev pub held_text : Bool → List ℕ
held_text true = ascii " held, nodes visited: "
held_text false = ascii " not held, nodes visited: "

unfoldable pub asked_line : ℕ → Answer Asked → List ℕ
asked_line fault (refused n) = decimal_text fault ++ number_line (ascii " refused ") n []
asked_line fault (value a) = decimal_text fault ++ number_line (held_text a.held) a.visited []

-- `line 7: no fault number`
abbrev pub wrong_line : ℕ → List ℕ
wrong_line place = number_line (ascii "line ") place (ascii ": no fault number")

-- the answer to a line: that to the number that it states, or that it states no number of 64 bits
unfoldable pub answer_line : (ℕ → Answer Asked) → ℕ → Stated → List ℕ
answer_line ask place stated.Nothing = wrong_line place
answer_line ask place (stated.Number n) = asked_line n (ask n)
answer_line ask place stated.Wrong = wrong_line place

-- the lines of a text, of which the first has begun with `line`; what stands after the last end of a line is a line where it has a byte
abbrev pub last_line_of : List ℕ → List (List ℕ)
last_line_of [] = []
last_line_of (b ∷ bs) = (b ∷ bs) ∷ []

unfoldable pub lines_from : List ℕ → List ℕ → List (List ℕ)
lines_from line [] = last_line_of line
lines_from line (b ∷ bs) = elim (eqb b 10) [ true ↦ line ∷ lines_from [] bs | false ↦ lines_from (line ++ (b ∷ [])) bs ]

-- the answers to lines, the first of which has the place given
unfoldable pub answers_to : (ℕ → Answer Asked) → ℕ → List (List ℕ) → List ℕ
answers_to ask place [] = []
answers_to ask place (line ∷ lines) = answer_line ask place (stated_by stated.Nothing line) ++ answers_to ask (place + 1) lines

-- What is printed for a whole text
unfoldable pub answers_text : (ℕ → Answer Asked) → List ℕ → List ℕ
answers_text ask text = answers_to ask 1 (lines_from [] text)
