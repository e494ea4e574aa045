-- The layout of the report record 52 50, as it is written and compared part by part.
use Rattle.std.specs.Prelude.{◌≡◌, Bool, ◌&&◌, List, [], ◌∷◌, ◌++◌, ℕ, drop}
use Rattle.model.specs.Base.{little_endian}
use Rattle.model.specs.Report.{same_bytes}

-- the 34 bytes before the runs, from the numbers in them: mark, tests, T, rising runs, falling runs, rising faults, falling faults
unfoldable pub head_bytes : ℕ → ℕ → ℕ → ℕ → ℕ → ℕ → List ℕ
head_bytes testCount paths rising_runs_of falling_runs_of risingFaults fallingFaults =
    little_endian 2 0x5052
    ++ (little_endian 4 testCount ++ (little_endian 8 paths ++ (little_endian 2 rising_runs_of ++ (little_endian 2 falling_runs_of ++ (little_endian 8 risingFaults ++ little_endian 8 fallingFaults)))))

-- words, low byte first in 8 bytes each: the runs of an edge, their lows and highs
abbrev pub word_bytes : List ℕ → List ℕ
word_bytes [] = []
word_bytes (w ∷ ws) = little_endian 8 w ++ word_bytes ws

-- the first 34 bytes of a report are these: then the bytes after them decide
pub record SameHead (r : Bool) (report : List ℕ) (testCount paths rising_runs_of falling_runs_of risingFaults fallingFaults : ℕ) : Type 0 where
  pub decides : (rest : List ℕ)
      → same_bytes report (head_bytes testCount paths rising_runs_of falling_runs_of risingFaults fallingFaults ++ rest) ≡ (r && same_bytes (drop 34 report) rest)
