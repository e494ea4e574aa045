-- What the writing functions leave in the output buffer, by the keys in lent words.
use Rattle.std.specs.Prelude.{ℕ, ◌≤◌, ◌≡◌, List, [], ◌∷◌, ◌++◌, map, length}
use Rattle.std.proofs.lemmas.List.Edits.{sets}
use Rattle.model.specs.Encode.{net_bytes, gate_bytes}
use Rattle.bench_lines.specs.Text.{Statement, blank, input, output, gate, other, tokens_of, statement_of, lines_of}
use Rattle.bench_lines.specs.Text.{pins_from}
use Rattle.bench_lines.specs.LineReading.{rest_at}
use Rattle.bench_names.specs.NameNets.{key_net}
use Rattle.bench_lines.specs.declared.inner.statements.GateParts.{GateParts}

-- the pins that are read from a position on, of a gate with so many
pub record PinsFound (line : List ℕ) (at pins : ℕ) : Type 0 where
  pub x : List ℕ
  pub k : ℕ
  pub ys : List (List ℕ)
  pub reads : pins_from x k [] (rest_at at line) ≡ gate x k ys
  pub count : length ys ≡ pins
  pub inside : at ≤ length line

unfoldable pub PinsThere : List ℕ → ℕ → ℕ → Type 0
PinsThere line at pins = PinsFound line at pins

pub record PinsPut (out out' : List ℕ) (p : ℕ) (line : List ℕ) (at : ℕ) (is : List ℕ) (i : ℕ) (gs : List ℕ) (g : ℕ) : Type 0 where
  pub put : (x : List ℕ) (k : ℕ) (ys : List (List ℕ)) → pins_from x k [] (rest_at at line) ≡ gate x k ys
      → out' ≡ sets out p (net_bytes (map (key_net is i gs g) ys))

pub record GatePut (out out' : List ℕ) (p : ℕ) (line : List ℕ) (parts : GateParts) (is : List ℕ) (i : ℕ) (gs : List ℕ) (g : ℕ) : Type 0 where
  pub put : (x : List ℕ) (k : ℕ) (ys : List (List ℕ)) → pins_from x k [] (rest_at parts.at line) ≡ gate x k ys
      → length ys ≡ parts.pins → out' ≡ sets out p (gate_bytes parts.kind (map (key_net is i gs g) ys))

-- the record of a line's gate
unfoldable pub line_bytes : List ℕ → ℕ → List ℕ → ℕ → Statement → List ℕ
line_bytes is i gs g blank = []
line_bytes is i gs g other = []
line_bytes is i gs g (input x) = []
line_bytes is i gs g (output x) = []
line_bytes is i gs g (gate x k ys) = gate_bytes k (map (key_net is i gs g) ys)

unfoldable pub lines_bytes : List ℕ → ℕ → List ℕ → ℕ → List (List ℕ) → List ℕ
lines_bytes is i gs g [] = []
lines_bytes is i gs g (l ∷ ls) = line_bytes is i gs g (statement_of (tokens_of l)) ++ lines_bytes is i gs g ls

-- the gate records of a line's bytes, and of a text's
abbrev pub bytes_of_line : List ℕ → ℕ → List ℕ → ℕ → List ℕ → List ℕ
bytes_of_line is i gs g line = line_bytes is i gs g (statement_of (tokens_of line))

abbrev pub bytes_of_text : List ℕ → ℕ → List ℕ → ℕ → List ℕ → List ℕ
bytes_of_text is i gs g text = lines_bytes is i gs g (lines_of text)

-- a gate has at most 8 pins
unfoldable pub FewPins : Statement → Type 0
FewPins blank = Unit {0}
FewPins other = Unit {0}
FewPins (input x) = Unit {0}
FewPins (output x) = Unit {0}
FewPins (gate x k ys) = length ys ≤ 8

unfoldable pub AllFewPins : List (List ℕ) → Type 0
AllFewPins [] = Unit {0}
AllFewPins (l ∷ ls) = FewPins (statement_of (tokens_of l)) × AllFewPins ls
