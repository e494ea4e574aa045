-- Writing an edge's runs over those that a store holds, and words made zero.
use Rattle.std.specs.Prelude.{◌≡◌, List, ◌++◌, ℕ, zero, suc, ◌+◌, ◌-◌, ◌*◌, ◌≤◌, ◌<◌, length, get_or, take, drop, set, replicate}
use Rattle.model.specs.Path.{Edge, rising, falling}
use Rattle.model.specs.Runs.{Run, run}
use Rattle.model.specs.Store.{ByEdge, of_edge, max_runs, tests_taken_of, store_of}
use Rattle.run_lists.specs.RunLists.{runs_in_words}
use Rattle.store_writing.specs.declared.inner.Change.{Change}
use Rattle.store_writing.specs.declared.inner.Change.TheVariants.{Kept, Made}

-- the words with `n` of them, from word `at` on, made zero
abbrev pub zeroed : List ℕ → ℕ → ℕ → List ℕ
zeroed ws at zero = ws
zeroed ws at (suc n) = zeroed (set ws at 0) (at + 1) n

-- the words from..to are zero
abbrev pub ZeroWords : List ℕ → ℕ → ℕ → Type 0
ZeroWords ws from to = (i : ℕ) → from ≤ i → i < to → get_or ws i 0 ≡ 0

unfoldable pub zero_runs : ℕ → List Run
zero_runs n = replicate n (run 0 0)

-- an edge's runs with zeros after them, one at each place
abbrev pub padded_runs : List Run → List Run
padded_runs rs = rs ++ zero_runs (max_runs - length rs)

-- the run place where an edge's runs begin, in the words after the head
abbrev pub first_run_of : Edge → ℕ
first_run_of rising = 0
first_run_of falling = max_runs

-- runs with those from..to replaced by others
abbrev pub replaced : ℕ → ℕ → List Run → List Run → List Run
replaced from to new old = take from old ++ (new ++ drop to old)

-- an edge's runs after a change: the old ones, or with some of them replaced by those made in other words from run place `made` on
abbrev pub changed : Change → List ℕ → ℕ → List Run → List Run
changed Kept words made old = old
changed (Made from to n) words made old = replaced from to (runs_in_words words made n) old

-- what a change replaces lies among `held` runs
abbrev pub Within : Change → ℕ → Type 0
Within Kept held = Unit {0}
Within (Made from to n) held = (from ≤ to) × (to ≤ held)

-- the runs of both edges with others for one of them
abbrev pub with_runs : Edge → List Run → ByEdge (List Run) → ByEdge (List Run)
with_runs rising rs s = record { on_rising = rs; on_falling = s.on_falling }
with_runs falling rs s = record { on_rising = s.on_rising; on_falling = rs }

-- the words are those of a store that has these runs
pub record StoreHas (ws : List ℕ) (s : ByEdge (List Run)) : Type 0 where
  pub is : ws ≡ store_of (tests_taken_of ws) s
  pub few : (e : Edge) → length (of_edge s e) ≤ max_runs

-- a store, and a change of an edge's runs: what it replaces lies among them, those afterwards fit, and what is made stands in the words
pub record Writable (words : List ℕ) (made : ℕ) (change : Change) (e : Edge) (ws : List ℕ) : Type 0 where
  pub runs : ByEdge (List Run)
  pub has : StoreHas ws runs
  pub within : Within change (length (of_edge runs e))
  pub few : length (changed change words made (of_edge runs e)) ≤ max_runs
  pub room : 2 * (made + max_runs) ≤ length words

-- the words afterwards are those of the store with the edge's runs changed, and no test more
abbrev pub Rewritten : List ℕ → ℕ → Change → Edge → List ℕ → List ℕ → Type 0
Rewritten words made change e ws ws' =
    (s : ByEdge (List Run)) → StoreHas ws s → ws' ≡ store_of (tests_taken_of ws) (with_runs e (changed change words made (of_edge s e)) s)
