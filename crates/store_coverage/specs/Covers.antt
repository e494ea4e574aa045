-- What a test makes of one edge of a store.
use Rattle.std.specs.Prelude.{ℕ, ◌+◌, ◌*◌, ◌/◌, ◌≤◌, ◌^◌, ◌≡◌, ◌||◌, List, [], ◌∷◌, leb, length, drop}
use Rattle.model.specs.Base.{Answer, refused, value, Rule, checks}
use Rattle.model.specs.Store.{max_runs}
use Rattle.model.specs.Netlist.{path_total}
use Rattle.model.specs.Runs.{Run, runs_among, in_runs}
use Rattle.run_lists.specs.RunLists.{Sound, runs_in_words}
use Rattle.store_writing.specs.Writing.{changed, Within}
use Rattle.store_writing.specs.declared.inner.Change.{Change}
use Rattle.detection.specs.Cases.{Case, detects_path, working}
use Rattle.store_coverage.specs.declared.inner.edges.Over.{Over}
use Rattle.store_coverage.specs.declared.inner.edges.Over.TheVariants as over
use Rattle.std.specs.Prelude.{Option, Some, Result, Ok, Err}

-- the runs of an edge after the test, where the store holds the runs `s`
unfoldable pub then_runs_of : Case → List Run → List Run
then_runs_of K s = runs_among (λ k. detects_path K k || in_runs s k) (path_total K.netlist)

-- words that are runs, two for each
abbrev pub held_runs : List ℕ → List Run
held_runs held = runs_in_words held 0 (length held / 2)

-- detected runs, runs that an edge holds, and room for their union
pub record JoinReady (detected : Option ℕ) (held words : List ℕ) (target : ℕ) : Type 0 where
  pub few_found : (n : ℕ) → detected ≡ Some n → n ≤ max_runs
  pub sound_found : (n : ℕ) → detected ≡ Some n → Sound (2 ^ 62) (runs_in_words words max_runs n)
  pub few_held : length held / 2 ≤ max_runs
  pub sound_held : Sound (2 ^ 62) (held_runs held)
  pub high : 2 * max_runs ≤ target
  pub room : 2 * (target + max_runs) ≤ length words

-- document 01's number for each case, of one edge or of both
abbrev pub fits_of : {A : Type 0} → Result A Over → Answer (Unit {0})
fits_of (Ok changes) = value tt
fits_of (Err over.Work) = refused 50
fits_of (Err over.Store) = refused 51

-- 50 and 51 of one edge
abbrev pub edge_rules : Case → List Run → List Rule
edge_rules K s = (50, leb (working K) max_runs) ∷ (51, leb (length (then_runs_of K s)) max_runs) ∷ []

-- the answer, the runs afterwards, kept or partly made at run place `target`, and the words that stay
pub record Covers (K : Case) (s : List Run) (ws ws' : List ℕ) (target : ℕ) (r : Result Change Over) : Type 0 where
  pub answers : fits_of r ≡ checks (edge_rules K s)
  pub runs_are : (d : Change) → r ≡ Ok d → changed d ws' target s ≡ then_runs_of K s
  pub within : (d : Change) → r ≡ Ok d → Within d (length s)
  pub kept : (k : ℕ) → 2 * (target + max_runs) ≤ k → drop k ws' ≡ drop k ws
  pub between : (f k : ℕ) → 2 * max_runs ≤ f → f + k ≤ target → runs_in_words ws' f k ≡ runs_in_words ws f k
