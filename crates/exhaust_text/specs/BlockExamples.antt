-- What is shown of document 01's Q, worked by hand: no test shows path 1, nor path 2 when it rises. And of a block of seven inputs.
use Rattle.std.specs.Prelude.{List, [], ◌∷◌, ◌++◌, ℕ}
use Rattle.text_line.specs.Lines.{ascii}
use Rattle.text_buffer.specs.Written.{plain_line}

unfoldable pub lines_of_q : List ℕ
lines_of_q =
    plain_line (ascii "R 3 3")
    ++ plain_line (ascii "F 2 3")
    ++ plain_line (ascii "rising 1")
    ++ plain_line (ascii "falling 2")
    ++ plain_line (ascii "undetected 3")

unfoldable pub faults_of_q : List ℕ
faults_of_q = 1 ∷ 2 ∷ 3 ∷ []

unfoldable pub line_of_seven : List ℕ
line_of_seven = plain_line (ascii "refused 91")
