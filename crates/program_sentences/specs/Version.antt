-- The line that `--version` writes. The number is that of the file VERSION.
use Rattle.std.specs.Prelude.{List, ℕ}
use Rattle.text_line.specs.Lines.{ascii}

abbrev pub version_text : List ℕ
version_text = ascii "genduwal 1.15.0"
