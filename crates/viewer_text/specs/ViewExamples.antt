-- What a viewer of three outputs is shown, worked by hand: the outputs have paths 1 and 2, 3 to 5, 6 to 10; the store holds, rising, 2 to 7 and,
-- falling, 5, 6 and 9 (`three` and `spanning` of viewer_places).
use Rattle.std.specs.Prelude.{List, ◌++◌, ℕ}
use Rattle.text_line.specs.Lines.{ascii}
use Rattle.text_buffer.specs.Written.{plain_line}

-- of the first and the third output: runs are cut at the second
unfoldable pub cut_lines : List ℕ
cut_lines =
    plain_line (ascii "R 2 2")
    ++ plain_line (ascii "R 6 7")
    ++ plain_line (ascii "F 6 6")
    ++ plain_line (ascii "F 9 9")
    ++ plain_line (ascii "rising 3")
    ++ plain_line (ascii "falling 2")

-- of places that do not ascend
unfoldable pub none_line : List ℕ
none_line = plain_line (ascii "refused 89")
