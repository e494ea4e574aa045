-- A line: its text, and what it says with more at its end.
use Rattle.std.specs.Prelude.{List, [], ◌∷◌, ◌++◌, ℕ, take}
use Prim.Native.String.{String, [] as no_text, ◌∷◌ as ◌then◌}
use Prim.Native.Char.{code}
use Rattle.text_line.specs.declared.Line.{Line}

-- the bytes of a text of ASCII characters
abbrev pub ascii : String → List ℕ
ascii no_text = []
ascii (c then s) = code c ∷ ascii s

-- the bytes on a line
abbrev pub text_of : Line → List ℕ
text_of line = take line.length line.bytes

-- a text with more at its end, on a line: what goes past 128 bytes is lost
unfoldable pub on_line : List ℕ → List ℕ → List ℕ
on_line before more = take 128 (before ++ more)
