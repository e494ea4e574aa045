-- Runs: a run is a longest stretch of consecutive numbers in a set. A set is a test on the numbers 1 to n.
use Rattle.std.specs.Prelude.{Bool, true, false, ◌&&◌, ◌||◌, List, [], ◌∷◌, map, ℕ, zero, suc, ◌+◌, ◌-◌, ◌≤◌, leb, eqb, length, get_or}
use Rattle.model.specs.Base.{sum_of, numbers_from}
use Rattle.model.specs.Netlist.{Netlist, nets, counts}
use Rattle.model.specs.Path.{Edge}
use Rattle.model.specs.Detect.{Test, in_net_set}

pub record Run : Type 0 where
  pub low : ℕ
  pub high : ℕ

abbrev pub run : ℕ → ℕ → Run
run low high = record { low = low; high = high }

-- the number `k` put before runs of higher numbers: it begins the first of them, or is a run by itself
unfoldable pub add_number : ℕ → List Run → List Run
add_number k [] = run k k ∷ []
add_number k (r ∷ rs) =
    elim (eqb r.low (suc k)) [
      | true ↦ run k r.high ∷ rs
      | false ↦ run k k ∷ r ∷ rs
    ]

-- the runs of the numbers from `k` on, `n` of them, that pass the test
unfoldable pub runs_from : (ℕ → Bool) → ℕ → ℕ → List Run
runs_from P k zero = []
runs_from P k (suc n) = elim (P k) [ true ↦ add_number k (runs_from P (suc k) n) | false ↦ runs_from P (suc k) n ]

-- The runs of the set of the numbers 1 to `n` that pass the test
unfoldable pub runs_among : (ℕ → Bool) → ℕ → List Run
runs_among P n = runs_from P 1 n

abbrev pub in_run : Run → ℕ → Bool
in_run r k = leb r.low k && leb k r.high

-- the number `k` lies in a run, ends included
unfoldable pub in_runs : List Run → ℕ → Bool
in_runs [] k = false
in_runs (r ∷ rs) k = in_run r k || in_runs rs k

-- the number of numbers in the runs
unfoldable pub size : List Run → ℕ
size [] = 0
size (r ∷ rs) = suc r.high - r.low + size rs

-- how many of the numbers from `k` on, `n` of them, pass the test
unfoldable pub how_many_from : (ℕ → Bool) → ℕ → ℕ → ℕ
how_many_from P k zero = 0
how_many_from P k (suc n) = elim (P k) [ true ↦ suc (how_many_from P (suc k) n) | false ↦ how_many_from P (suc k) n ]

-- how many of the numbers 1 to `n` pass the test
unfoldable pub how_many : (ℕ → Bool) → ℕ → ℕ
how_many P n = how_many_from P 1 n

-- Separated runs: ascending from `least` on, none empty, none over `n`, neighbours never adjacent or overlapping
unfoldable pub separated_runs_of : ℕ → ℕ → List Run → Bool
separated_runs_of n least [] = true
separated_runs_of n least (r ∷ rs) = leb least r.low && leb r.low r.high && leb r.high n && separated_runs_of n (r.high + 2) rs

-- the same as a fact
abbrev pub Separated : ℕ → ℕ → List Run → Type 0
Separated n least [] = Unit {0}
Separated n least (r ∷ rs) = (least ≤ r.low) × (r.low ≤ r.high) × (r.high ≤ n) × Separated n (r.high + 2) rs

-- Working runs of an edge: the sum over all nets of the runs of their sets
unfoldable pub working_runs : Netlist → Test → Edge → ℕ
working_runs N t e = sum_of (map (λ net. length (runs_among (in_net_set N t e net) (get_or (counts N) net 0))) (numbers_from 0 (nets N)))
