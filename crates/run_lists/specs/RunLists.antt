-- Lists of runs (document 01: a run is a longest stretch of consecutive numbers in a set): one more run, runs shifted, and their words in memory.
use Rattle.std.specs.Prelude.{ℕ, zero, suc, ◌+◌, ◌*◌, ◌≤◌, max, Bool, true, false, cond, ◌||◌, List, [], ◌∷◌, nat_le, slice_index, slice_set}
use Rattle.model.specs.Runs.{Run, in_runs, Separated, run}

-- Document 01's runs of a set of the numbers 1 to `n`: ascending, neighbours never adjacent or overlapping
abbrev pub Sound : ℕ → List Run → Type 0
Sound n rs = Separated n 1 rs

-- a run of some of the numbers 1 to `n`
pub record RunWithin (n : ℕ) (r : Run) : Type 0 where
  pub least : 1 ≤ r.low
  pub order : r.low ≤ r.high
  pub most : r.high ≤ n

-- two runs of which the second begins no lower: one run where they overlap or are adjacent
unfoldable pub joined : Run → Run → List Run
joined c r = cond (nat_le r.low (c.high + 1)) (run c.low (max c.high r.high) ∷ []) (c ∷ r ∷ [])

-- one more run at the end, joined to the last run where they overlap or are adjacent
abbrev pub add_run : List Run → Run → List Run
add_run [] r = r ∷ []
add_run (c ∷ []) r = joined c r
add_run (c ∷ d ∷ rs) r = c ∷ add_run (d ∷ rs) r

-- several runs more, one after the other
abbrev pub add_runs : List Run → List Run → List Run
add_runs s [] = s
add_runs s (r ∷ rs) = add_runs (add_run s r) rs

-- the runs of numbers that are all higher by `o`: document 01's "plus the counts" of what stands before
abbrev pub shift_run : ℕ → Run → Run
shift_run o r = run (r.low + o) (r.high + o)

abbrev pub shift_runs : ℕ → List Run → List Run
shift_runs o [] = []
shift_runs o (r ∷ rs) = shift_run o r ∷ shift_runs o rs

-- the number lies in a run of one list or of the other
abbrev pub in_either : List Run → List Run → ℕ → Bool
in_either xs ys k = in_runs xs k || in_runs ys k

-- the runs, only where the test passes
abbrev pub only_if : Bool → List Run → List Run
only_if true rs = rs
only_if false rs = []

-- the run at run place `i` of some words: its low at word 2i, its high at word 2i + 1
abbrev pub run_at : List ℕ → ℕ → Run
run_at ws i = run (slice_index ws (2 * i)) (slice_index ws (2 * i + 1))

-- `n` runs from run place `i` on
abbrev pub runs_in_words : List ℕ → ℕ → ℕ → List Run
runs_in_words ws i zero = []
runs_in_words ws i (suc n) = run_at ws i ∷ runs_in_words ws (i + 1) n

-- the words with these runs written from run place `i` on, and no other word changed
abbrev pub write_runs_of : List ℕ → ℕ → List Run → List ℕ
write_runs_of ws i [] = ws
write_runs_of ws i (r ∷ rs) = write_runs_of (slice_set (slice_set ws (2 * i) r.low) (2 * i + 1) r.high) (i + 1) rs
