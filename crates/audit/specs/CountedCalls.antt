-- The tests taken, of the values that the calls return: the order of the test calls does not show in the store that they left, and a test
-- that was taken again changed its third word alone. That this word is the number of calls taken stands in Promised (`tests_true`).
use Rattle.std.specs.Prelude.{◌≡◌, ℕ, suc, set}
use mathlib.Core.List.{List, [], ◌∷◌, ◌++◌, map, Permᴰ}
use Rattle.model.specs.Netlist.{Netlist}
use Rattle.model.specs.Store.{empty_store, tests_word, tests_taken_of}
use Rattle.model.specs.Demand3.{Call}
use Rattle.model.specs.Counted.{orders_of}
use Rattle.audit.specs.Promised.{MadeCall, TakenCall, Promised, last_store}

abbrev pub calls_of : List MadeCall → List Call
calls_of ms = map (λ m. m.call) ms

-- every call of a list was taken
abbrev pub AllCallsTaken : List MadeCall → Type 0
AllCallsTaken [] = Unit {0}
AllCallsTaken (m ∷ ms) = TakenCall m × AllCallsTaken ms

-- the words with one test more
abbrev pub one_more_of : List ℕ → List ℕ
one_more_of ws = set ws tests_word (suc (tests_taken_of ws))

pub record CountedCalls (netlist : List ℕ) (N : Netlist) : Type 0 where
  -- two orders of one list of tests, each taken whole, left equal words
  pub orders : (ms ks : List MadeCall) → Promised netlist empty_store ms → Promised netlist empty_store ks → AllCallsTaken ms → AllCallsTaken ks
      → Permᴰ (orders_of (calls_of ms)) (orders_of (calls_of ks)) → last_store empty_store ms ≡ last_store empty_store ks
  -- the test of a taken call, taken again in the same class after any further calls, changed only the third word
  pub again : (before further : List MadeCall) (m k : MadeCall) → Promised netlist empty_store ((before ++ (m ∷ further)) ++ (k ∷ []))
      → m.call.class ≡ k.call.class → m.call.rec ≡ k.call.rec → TakenCall m → TakenCall k
      → k.left ≡ one_more_of (last_store empty_store (before ++ (m ∷ further)))
