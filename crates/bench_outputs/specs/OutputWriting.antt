-- The records of the outputs among keys in lent words, and what writing them leaves.
use Rattle.std.specs.Prelude.{ℕ, zero, suc, ◌+◌, ◌≤◌, ◌≡◌, Bool, true, false, List, [], ◌++◌, ltb, length, get_or}
use Rattle.std.proofs.lemmas.List.Edits.{sets}
use Rattle.model.specs.Encode.{output_bytes}
use Rattle.bench_lines.specs.Keys.{key_place}

-- bytes fit into a buffer from a place on
abbrev pub RoomFor : ℕ → List ℕ → List ℕ → Type 0
RoomFor p bytes out = p + length bytes ≤ length out

-- bytes written at a place, and the place after them
pub record BytesPut (r : ℕ) (out out' : List ℕ) (p : ℕ) (bytes : List ℕ) : Type 0 where
  pub put : out' ≡ sets out p bytes
  pub next : r ≡ p + length bytes

-- an output's record, if it is one
unfoldable pub one_output : Bool → ℕ → List ℕ
one_output true net = output_bytes net
one_output false net = []

-- the records of the outputs among `n` keys, the first at word `at` with net `net`
unfoldable pub key_outputs : List ℕ → ℕ → List ℕ → ℕ → ℕ → ℕ → List ℕ
key_outputs os o ws zero at net = []
key_outputs os o ws (suc n) at net =
    one_output (ltb (key_place (get_or ws at 0) (get_or ws (at + 1) 0) o 0 os) o) net ++ key_outputs os o ws n (at + 2) (net + 1)
