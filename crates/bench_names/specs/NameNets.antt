-- The nets of names, by their keys in lent words; what the functions that look names up answer.
use Rattle.std.specs.Prelude.{ℕ, ◌+◌, ◌≤◌, ◌≡◌, Bool, true, false, List, [], ltb, length}
use Rattle.model.specs.Base.{all_of}
use Rattle.bench_lines.specs.Text.{gate, pins_from}
use Rattle.bench_lines.specs.LineReading.{rest_at}
use Rattle.bench_lines.specs.Keys.{key_low, key_high, key_place}

-- the place of a name among `n` keys
unfoldable pub name_place : List ℕ → ℕ → List ℕ → ℕ
name_place ws n x = key_place (key_low x) (key_high x) n 0 ws

-- the net of a key, among `i` inputs and `g` gates
unfoldable pub pair_net : List ℕ → ℕ → List ℕ → ℕ → ℕ → ℕ → ℕ
pair_net is i gs g low high = elim (ltb (key_place low high i 0 is) i) [ true ↦ key_place low high i 0 is | false ↦ i + key_place low high g 0 gs ]

-- the net of a name, among `i` inputs and `g` gates
unfoldable pub key_net : List ℕ → ℕ → List ℕ → ℕ → List ℕ → ℕ
key_net is i gs g x = elim (ltb (name_place is i x) i) [ true ↦ name_place is i x | false ↦ i + name_place gs g x ]

unfoldable pub key_known : List ℕ → ℕ → List ℕ → ℕ → List ℕ → Bool
key_known is i gs g x = ltb (key_net is i gs g x) (i + g)

-- words for 64 inputs and 512 gates, and how many there are
pub record NamesRoom (is : List ℕ) (i : ℕ) (gs : List ℕ) (g : ℕ) : Type 0 where
  pub input_words : length is ≡ 128
  pub gate_words : length gs ≡ 1024
  pub few_inputs : i ≤ 64
  pub few_gates : g ≤ 511

-- whether all pins that are read from a position on are known
pub record PinsJudged (r : Bool) (at : ℕ) (line is : List ℕ) (i : ℕ) (gs : List ℕ) (g : ℕ) : Type 0 where
  pub known : (x : List ℕ) (k : ℕ) (ys : List (List ℕ)) → pins_from x k [] (rest_at at line) ≡ gate x k ys
      → r ≡ all_of (key_known is i gs g) ys
