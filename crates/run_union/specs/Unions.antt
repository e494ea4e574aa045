-- What the functions that make runs promise beside `Adds`.
use Rattle.std.specs.Prelude.{ℕ, ◌+◌, ◌-◌, ◌*◌, ◌≤◌, ◌<◌, ◌≡◌, Bool, true, false, List, [], ◌∷◌, leb, get_or}
use Rattle.model.specs.Runs.{Run, runs_among}
use Rattle.run_lists.specs.RunLists.{Sound, add_runs, shift_runs, in_either, runs_in_words}
use Rattle.run_lists.specs.Answers.{Adds}
use Rattle.std.specs.Prelude.{Option}

-- the `count` runs at run place `start` with the runs from..to added, shifted
abbrev pub with_shifted : List ℕ → ℕ → ℕ → ℕ → ℕ → ℕ → List Run
with_shifted ws from to start count offset = add_runs (runs_in_words ws start count) (shift_runs offset (runs_in_words ws from (to - from)))

-- whether the first run of the two lists by ascending low is the left list's
abbrev pub left_first_of : List Run → List Run → Bool
left_first_of [] ys = false
left_first_of (x ∷ xs) [] = true
left_first_of (x ∷ xs) (y ∷ ys) = leb x.low y.low

-- where the answer is true, a list has room for the runs from..to, and the first of them, shifted, is apart from the word before the list's end
abbrev pub FitsWhere : Bool → List ℕ → ℕ → ℕ → ℕ → ℕ → ℕ → ℕ → Type 0
FitsWhere r ws from to start n cap offset = r ≡ true → (n + (to - from) ≤ cap) × (get_or ws (2 * (start + n) - 1) 0 + 1 < get_or ws (2 * from) 0 + offset)

-- the least number that a run after these may begin with, where one after none may begin with `b`
abbrev pub least_after : ℕ → List Run → ℕ
least_after b [] = b
least_after b (r ∷ rs) = least_after (r.high + 2) rs

-- the first run begins too high for one that ends with `high` to join it
abbrev pub BeginsOver : ℕ → List Run → Type 0
BeginsOver high [] = Unit {0}
BeginsOver high (r ∷ rs) = high + 1 < r.low

-- the runs a-from..a-to of some words and b-from..b-to of others united at `start` of the others, for each bound that both lists keep
abbrev pub Unites : (a : List ℕ) (a-from a-to : ℕ) (ws : List ℕ) (b-from b-to start cap : ℕ) (ws' : List ℕ) (r : Option ℕ) → Type 0
Unites a a-from a-to ws b-from b-to start cap ws' r =
    (t : ℕ) → Sound t (runs_in_words a a-from (a-to - a-from)) → Sound t (runs_in_words ws b-from (b-to - b-from))
    → Adds ws ws' start cap (runs_among (in_either (runs_in_words a a-from (a-to - a-from)) (runs_in_words ws b-from (b-to - b-from))) t) r
