-- The store: words that hold the runs of the tested path numbers of each edge.
-- Words: rising runs, falling runs, tests taken, then 1,024 places for rising runs and 1,024 for falling; each place a low and a high, zeros
-- after the last.
use Rattle.std.specs.Prelude.{Bool, ◌&&◌, ◌||◌, List, [], ◌∷◌, ◌++◌, ℕ, zero, suc, ◌+◌, ◌-◌, ◌*◌, leb, eqb, length, get_or, take, drop, replicate}
use Rattle.model.specs.Base.{Rule, all_of}
use Rattle.model.specs.Path.{Edge, rising, falling}
use Rattle.model.specs.Runs.{Run, separated_runs_of}

-- one thing for each edge
pub record ByEdge (A : Type 0) : Type 0 where
  pub on_rising : A
  pub on_falling : A

abbrev pub by_edge : {A : Type 0} → (Edge → A) → ByEdge A
by_edge f = record { on_rising = f rising; on_falling = f falling }

abbrev pub of_edge : {A : Type 0} → ByEdge A → Edge → A
of_edge p rising = p.on_rising
of_edge p falling = p.on_falling

-- a test at both edges
abbrev pub both_edges : (Edge → Bool) → Bool
both_edges f = f rising && f falling

-- the most runs of an edge, the words of its places, and the words before the places
abbrev pub max_runs : ℕ
max_runs = 1024

abbrev pub place_words : ℕ
place_words = 2 * max_runs

abbrev pub head_words : ℕ
head_words = 3

abbrev pub store_words_count : ℕ
store_words_count = head_words + 2 * place_words

-- the word with the number of an edge's runs, and the word where its places begin
abbrev pub count_word_of : Edge → ℕ
count_word_of rising = 0
count_word_of falling = 1

abbrev pub first_word : Edge → ℕ
first_word rising = head_words
first_word falling = head_words + place_words

-- the word with the number of tests taken, and the most that it may be
abbrev pub tests_word : ℕ
tests_word = 2

abbrev pub max_tests : ℕ
max_tests = 4294967295

-- Empty is all zeros
abbrev pub empty_store : List ℕ
empty_store = replicate store_words_count 0

-- `n` runs from word `at` on
abbrev pub runs_at : List ℕ → ℕ → ℕ → List Run
runs_at ws at zero = []
runs_at ws at (suc n) = record { low = get_or ws at 0; high = get_or ws (suc at) 0 } ∷ runs_at ws (suc (suc at)) n

abbrev pub run_count : List ℕ → Edge → ℕ
run_count ws e = get_or ws (count_word_of e) 0

abbrev pub tests_taken_of : List ℕ → ℕ
tests_taken_of ws = get_or ws tests_word 0

-- The runs of an edge in a store's words. A store holds a fault when its path's number lies in one of the runs of its edge
unfoldable pub store_runs : List ℕ → Edge → List Run
store_runs ws e = runs_at ws (first_word e) (run_count ws e)

abbrev pub runs_by_edge : List ℕ → ByEdge (List Run)
runs_by_edge ws = by_edge (store_runs ws)

abbrev pub lows_highs : List Run → List ℕ
lows_highs [] = []
lows_highs (r ∷ rs) = r.low ∷ r.high ∷ lows_highs rs

-- an edge's places
abbrev pub places : List Run → List ℕ
places rs = lows_highs rs ++ replicate (place_words - 2 * length rs) 0

-- The words of a store with this number of tests taken and these runs
unfoldable pub store_of : ℕ → ByEdge (List Run) → List ℕ
store_of tests s = length s.on_rising ∷ length s.on_falling ∷ tests ∷ places s.on_rising ++ places s.on_falling

-- the words past an edge's last run
abbrev pub words_after : List ℕ → Edge → List ℕ
words_after ws e = take (place_words - 2 * run_count ws e) (drop (first_word e + 2 * run_count ws e) ws)

-- no tests taken, no runs
abbrev pub runs_of_tests_of : List ℕ → Bool
runs_of_tests_of ws = leb 1 (tests_taken_of ws) || both_edges (λ e. eqb (run_count ws e) 0)

-- Store: the rules of a store's words, for path numbers 1 to `paths`
abbrev pub store_rules : ℕ → List ℕ → List Rule
store_rules paths ws =
    (40, both_edges (λ e. leb (run_count ws e) max_runs))
    ∷ (40, leb (tests_taken_of ws) max_tests)
    ∷ (41, both_edges (λ e. separated_runs_of paths 1 (store_runs ws e)))
    ∷ (41, runs_of_tests_of ws)
    ∷ (42, both_edges (λ e. all_of (λ w. eqb w 0) (words_after ws e)))
    ∷ []
