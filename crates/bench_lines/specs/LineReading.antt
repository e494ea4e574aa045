-- What the readers of lines and tokens answer.
use Rattle.std.specs.Prelude.{ℕ, ◌+◌, ◌-◌, ◌≤◌, ◌<◌, ◌≡◌, true, false, List, [], ◌∷◌, length, get_or, take, drop}
use Rattle.model.specs.Base.{all_of}
use Rattle.bench_lines.specs.Text.{Token, name, sign, lines_from, tokens_from, name_byte}
use Rattle.bench_lines.specs.declared.inner.lines.LineEnds.{LineEnds}
use Rattle.bench_lines.specs.declared.inner.tokens.NextToken.{NextToken}
use Rattle.bench_lines.specs.declared.inner.tokens.NextToken.TheVariants as token

-- the bytes from a position to another
abbrev pub part : ℕ → ℕ → List ℕ → List ℕ
part at to bs = take (to - at) (drop at bs)

-- the tokens from a position on
abbrev pub rest_at : ℕ → List ℕ → List Token
rest_at at line = tokens_from [] (drop at line)

-- a name, and the tokens after it
abbrev pub name_then : ℕ → ℕ → List ℕ → List Token
name_then from to line = name (part from to line) ∷ rest_at to line

-- the bytes to the first 0A, or to the end, belong to the line
pub record EndIs (r at : ℕ) (text : List ℕ) : Type 0 where
  pub lines : lines_from [] (drop at text) ≡ lines_from (part at r text) (drop r text)
  pub low : at ≤ r
  pub high : r ≤ length text
  pub ends : r < length text → get_or text r 0 ≡ 0x0A

-- the line from a position to its stop, and the lines after it
pub record LineIs (r : LineEnds) (at : ℕ) (text : List ℕ) : Type 0 where
  pub lines : lines_from [] (drop at text) ≡ part at r.stop text ∷ lines_from [] (drop r.next text)
  pub low : at ≤ r.stop
  pub later : at < r.next
  pub stop_in : r.stop ≤ length text
  pub next_in : r.next ≤ length text

-- spaces are skipped
pub record SpacesEnd (r at : ℕ) (line : List ℕ) : Type 0 where
  pub tokens : rest_at at line ≡ rest_at r line
  pub low : at ≤ r
  pub high : r ≤ length line
  pub no_space : get_or line r 0 ≡ 0x20 → r < length line → ⊥

-- the word goes on to a byte that is in no name, or to the end
pub record WordEnd (r at : ℕ) (line : List ℕ) : Type 0 where
  pub tokens : rest_at at line ≡ tokens_from (part at r line) (drop r line)
  pub named : all_of name_byte (part at r line) ≡ true
  pub low : at ≤ r
  pub high : r ≤ length line
  pub ends : r < length line → name_byte (get_or line r 0) ≡ false

-- a name of 1 to 16 bytes
pub record Named (w : List ℕ) : Type 0 where
  pub bytes : all_of name_byte w ≡ true
  pub some : 1 ≤ length w
  pub short : length w ≤ 16

-- a name stands from a position to another
pub record NameIn (from to : ℕ) (line : List ℕ) : Type 0 where
  pub named : Named (part from to line)
  pub some : from < to
  pub high : to ≤ length line
  pub short : to ≤ from + 16

-- a name, and the tokens after it
pub record NameAt (from to at : ℕ) (line : List ℕ) : Type 0 where
  pub tokens : rest_at at line ≡ name_then from to line
  pub is_name : NameIn from to line
  pub low : at ≤ from

-- a sign, and the tokens after it
pub record SignAt (b next at : ℕ) (line : List ℕ) : Type 0 where
  pub tokens : rest_at at line ≡ sign b ∷ rest_at next line
  pub later : at < next
  pub high : next ≤ length line

abbrev pub TokenIs : NextToken → ℕ → List ℕ → Type 0
TokenIs (token.Name from to) at line = NameAt from to at line
TokenIs (token.Sign b next) at line = SignAt b next at line
TokenIs token.End at line = rest_at at line ≡ []
