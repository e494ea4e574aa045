-- What the functions that add runs answer, and the words that they leave.
use Rattle.std.specs.Prelude.{◌≡◌, ℕ, ◌+◌, ◌*◌, ◌<◌, ◌≤◌, Bool, true, cond, List, length, take, nat_le}
use Rattle.model.specs.Runs.{Run}
use Rattle.run_lists.specs.RunLists.{run_at, write_runs_of}
use Rattle.std.specs.Prelude.{Option, Some, None}

-- the number of runs of a list, or none where they are over the capacity (document 01's 50 and 51: "runs over 1,024")
abbrev pub answer : ℕ → List Run → Option ℕ
answer cap s = cond (nat_le (length s) cap) (Some (length s)) None

-- a list of `n` runs at run place `start`, with room for `cap` runs
pub record Room (ws : List ℕ) (start n cap : ℕ) : Type 0 where
  pub fits : n ≤ cap
  pub inside : 2 * (start + cap) ≤ length ws

-- a function that makes `s` of the list at `start`: its answer, and the words afterwards, with as many runs of `s` as there is room for
pub record Adds (ws ws' : List ℕ) (start cap : ℕ) (s : List Run) (r : Option ℕ) : Type 0 where
  pub answers : r ≡ answer cap s
  pub writes : ws' ≡ write_runs_of ws start (take cap s)

-- the run lies in one of the runs from..to of some words
pub record RunInside (ws : List ℕ) (from to : ℕ) (r : Run) : Type 0 where
  pub place : ℕ
  pub begun : from ≤ place
  pub ended : place < to
  pub not_below : (run_at ws place).low ≤ r.low
  pub not_above : r.high ≤ (run_at ws place).high

-- where the answer is true, each of the runs b-from..b-to of some words lies in one of the runs a-from..a-to of others
abbrev pub InsideWhere : Bool → List ℕ → ℕ → ℕ → List ℕ → ℕ → ℕ → Type 0
InsideWhere r a a-from a-to b b-from b-to = r ≡ true → (j : ℕ) → b-from ≤ j → j < b-to → RunInside a a-from a-to (run_at b j)
