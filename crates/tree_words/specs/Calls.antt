-- The calls on a tree, each as a function of the words that it is handed.
use Rattle.std.specs.Prelude.{◌≡◌, Bool, true, false, ◌&&◌, ◌||◌, not, List, [], ◌∷◌, ℕ, ◌+◌, ◌^◌, leb, eqb, length, drop}
use Rattle.model.specs.Base.{Answer, refused, value, ◌then◌, Rule, checks, after}
use Rattle.model.specs.Runs.{Run, in_run, in_runs, runs_among, size}
use Rattle.model.specs.Store.{max_runs}
use Rattle.tree_words.specs.TreeLayout.{tree_words_count, tree_runs, sound_words_of}
use Rattle.tree_words.specs.Ways.{way_to}

abbrev pub run_of : ℕ → ℕ → Run
run_of l h = record { low = l; high = h }

-- path numbers are 1 to 2^62
abbrev pub max_number : ℕ
max_number = 2 ^ 62

abbrev pub length_rule : List ℕ → Rule
length_rule ws = (87, leb tree_words_count (length ws))

abbrev pub words_rule : List ℕ → Rule
words_rule ws = (88, sound_words_of ws)

unfoldable pub run_legal_of : Run → Bool
run_legal_of r = leb 1 r.low && leb r.low r.high && leb r.high max_number

abbrev pub run_rule : Run → Rule
run_rule r = (41, run_legal_of r)

abbrev pub number_rule : ℕ → Rule
number_rule k = (60, leb 1 k && leb k max_number)

-- Emptying, of any words: refused by 87 alone
unfoldable pub empty_tree_call : List ℕ → Answer (Unit {0})
empty_tree_call ws = checks (length_rule ws ∷ [])

unfoldable pub emptied_tree : List ℕ → List ℕ
emptied_tree ws = after (empty_tree_call ws) ws (λ u. 0 ∷ 0 ∷ 0 ∷ drop 3 ws)

-- the runs of the numbers held with those of a run, and without them
unfoldable pub runs_with : List Run → Run → List Run
runs_with rs r = runs_among (λ k. in_run r k || in_runs rs k) max_number

unfoldable pub runs_without : List Run → Run → List Run
runs_without rs r = runs_among (λ k. in_runs rs k && not (in_run r k)) max_number

-- the run is one of the list
abbrev pub same_run : Run → Run → Bool
same_run r s = eqb r.low s.low && eqb r.high s.high

unfoldable pub stored : List Run → Run → Bool
stored [] r = false
stored (s ∷ rs) r = same_run r s || stored rs r

-- Insert, with merging, and delete: the runs that are then held
unfoldable pub insert_call : List ℕ → Run → Answer (List Run)
insert_call ws r =
    checks (length_rule ws ∷ words_rule ws ∷ run_rule r ∷ (51, leb (length (runs_with (tree_runs ws) r)) max_runs) ∷ [])
    then value (runs_with (tree_runs ws) r)

unfoldable pub delete_call : List ℕ → Run → Answer (List Run)
delete_call ws r =
    checks (length_rule ws ∷ words_rule ws ∷ run_rule r ∷ (60, stored (tree_runs ws) r) ∷ [])
    then value (runs_without (tree_runs ws) r)

-- What insert and delete leave. The shape of the tree and the place of its nodes are the program's: it is a tree in the layout, and its
-- leaves are exactly the runs then held. A refusal leaves the words; the words past the tree's are never touched.
pub record Holding (call : Answer (List Run)) (ws ws' : List ℕ) : Type 0 where
  pub same_length_of : length ws' ≡ length ws
  pub past : drop tree_words_count ws' ≡ drop tree_words_count ws
  pub sound : (rs : List Run) → call ≡ value rs → sound_words_of ws' ≡ true
  pub held : (rs : List Run) → call ≡ value rs → tree_runs ws' ≡ rs
  pub refusal : (n : ℕ) → call ≡ refused n → ws' ≡ ws

-- Search: the least overlapping run, else the adjacent one with the least low, else none. The runs are ascending, so the first is the least.
pub data Found : Type 0 where
  none : Found
  found : Run → Found

abbrev pub overlaps : Run → Run → Bool
overlaps x y = leb x.low y.high && leb y.low x.high

abbrev pub adjacent : Run → Run → Bool
adjacent x y = eqb x.low (y.high + 1) || eqb y.low (x.high + 1)

unfoldable pub first_run_of : (Run → Bool) → List Run → Found
first_run_of test [] = none
first_run_of test (r ∷ rs) = elim (test r) [ true ↦ found r | false ↦ first_run_of test rs ]

abbrev pub or_else : Found → Found → Found
or_else none y = y
or_else (found r) y = found r

unfoldable pub search_runs_of : List Run → Run → Found
search_runs_of rs x = or_else (first_run_of (overlaps x) rs) (first_run_of (adjacent x) rs)

unfoldable pub search_call : List ℕ → Run → Answer Found
search_call ws x = checks (length_rule ws ∷ words_rule ws ∷ run_rule x ∷ []) then value (search_runs_of (tree_runs ws) x)

-- Total: how many numbers are held
unfoldable pub total_call : List ℕ → Answer ℕ
total_call ws = checks (length_rule ws ∷ words_rule ws ∷ []) then value (size (tree_runs ws))

-- Asking for a path number: whether it is held, and the nodes visited for the answer, which are those on the way to its leaf
pub record Asked : Type 0 where
  pub held : Bool
  pub visited : ℕ

unfoldable pub holds_call : List ℕ → ℕ → Answer Asked
holds_call ws k =
    checks (length_rule ws ∷ words_rule ws ∷ number_rule k ∷ [])
    then value (record { held = in_runs (tree_runs ws) k; visited = length (way_to ws k) })
