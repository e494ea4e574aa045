-- Everything a small block can show: every legal pair of vectors of up to 6 inputs, applied to an emptied store.
-- Names: netlist are the bytes handed over; class is the number of a class; ws is the store, work the working memory.
use Rattle.std.specs.Prelude.{◌≡◌, ◌↔◌, Bool, true, false, ◌||◌, not, List, [], ◌∷◌, map, ℕ, ◌*◌, ◌-◌, ◌^◌, T, leb, eqb, length, drop}
use Rattle.model.specs.Base.{Answer, refused, value, ◌into◌, ◌then◌, Rule, checks}
use Rattle.model.specs.Netlist.{Netlist}
use Rattle.model.specs.Path.{Edge, Fault, valid, number_of}
use Rattle.model.specs.Detect.{Class, detects}
use Rattle.model.specs.Runs.{in_runs, size}
use Rattle.model.specs.Read.{read_netlist, class_of, test_rules, test_of}
use Rattle.model.specs.Store.{ByEdge, by_edge, empty_store, tests_taken_of, store_runs}
use Rattle.model.specs.Calls.{work_words_count, before_test, totals_call}
use Rattle.model.specs.Report.{test_all}
use Rattle.model.specs.Demand3.{RunsOfDetected}
use Rattle.exhaust_pairs.specs.AllPairs.{all_pairs}

-- the most inputs of a small block
abbrev pub most_inputs : ℕ
most_inputs = 6

abbrev pub few_inputs : Netlist → Rule
few_inputs N = (91, leb N.inputs most_inputs)

-- the pairs on a legal netlist, 91 before them, from the empty store: the store that they leave
unfoldable pub pairs_on : Netlist → Class → Answer (List ℕ)
pairs_on N c = checks (few_inputs N ∷ []) then test_all N c (all_pairs N.inputs) empty_store

-- All pairs: the store that they leave
unfoldable pub exhaust_call : List ℕ → ℕ → List ℕ → List ℕ → Answer (List ℕ)
exhaust_call netlist class ws work = before_test netlist class ws work into λ N. pairs_on N (class_of class)

-- it returns the totals
unfoldable pub exhaust_answer : List ℕ → ℕ → List ℕ → List ℕ → Answer (ByEdge ℕ)
exhaust_answer netlist class ws work = exhaust_call netlist class ws work into λ left. value (by_edge (λ e. size (store_runs left e)))

-- the numbers of a refusal on the way, of the place Work
abbrev pub of_work : ℕ → Bool
of_work n = eqb n 50 || eqb n 51

-- the store afterwards: empty after a 50 or 51 on the way, as found after another refusal
abbrev pub exhaust_after : Answer (List ℕ) → List ℕ → List ℕ
exhaust_after (refused n) ws = elim (of_work n) [ true ↦ empty_store | false ↦ ws ]
exhaust_after (value left) ws = left

unfoldable pub exhaust_store : List ℕ → ℕ → List ℕ → List ℕ → List ℕ
exhaust_store netlist class ws work = exhaust_after (exhaust_call netlist class ws work) ws

-- Working memory after the call: its first 8,192 words may hold anything where pairs were applied; after another refusal it is as before
pub record PairsWork (netlist : List ℕ) (class : ℕ) (ws found left : List ℕ) : Type 0 where
  pub same_length_of : length left ≡ length found
  pub past_work : drop work_words_count left ≡ drop work_words_count found
  pub not_applied : (n : ℕ) → exhaust_answer netlist class ws found ≡ refused n → T (not (of_work n)) → left ≡ found

-- some legal test of the class detects the fault
pub record Shown (N : Netlist) (c : Class) (f : Fault) : Type 0 where
  pub rec : List ℕ
  pub is_legal : checks (test_rules N rec) ≡ value tt
  pub detected : T (detects N (test_of N c rec) f)

-- What a call that is not refused leaves and returns: all pairs are taken then
pub record Exhausted (netlist : List ℕ) (N : Netlist) (class : ℕ) (left : List ℕ) (totals : ByEdge ℕ) : Type 0 where
  -- there is no fault outside the store that any legal test of the class detects, and no other in it
  pub shows : (f : Fault) → T (valid N f.path) → T (in_runs (store_runs left f.edge) (number_of N f.path)) ↔ Shown N (class_of class) f
  pub no_other : (e : Edge) → RunsOfDetected N (map (test_of N (class_of class)) (all_pairs N.inputs)) e (store_runs left e)
  -- the third word is the number of the pairs
  pub counted : tests_taken_of left ≡ 2 ^ N.inputs * (2 ^ N.inputs - 1)
  -- the totals are those that the totals call gives for it
  pub totals_true : totals_call netlist left ≡ value totals

-- What is claimed
pub record Exhaustive : Type 0 where
  pub whole : (netlist : List ℕ) (class : ℕ) (ws work : List ℕ) (N : Netlist) → read_netlist netlist ≡ value N
      → (totals : ByEdge ℕ) → exhaust_answer netlist class ws work ≡ value totals
      → Exhausted netlist N class (exhaust_store netlist class ws work) totals
  -- on the way it is refused by 50 or 51 alone: every pair is legal and the store stays sound
  pub on_the_way : (netlist : List ℕ) (N : Netlist) → read_netlist netlist ≡ value N → T (few_inputs N).1
      → (c : Class) (n : ℕ) → test_all N c (all_pairs N.inputs) empty_store ≡ refused n → T (of_work n)
  -- and by neither before the pairs, so that the store is then as found
  pub before : (netlist : List ℕ) (class : ℕ) (ws work : List ℕ) (n : ℕ) → before_test netlist class ws work ≡ refused n
      → exhaust_store netlist class ws work ≡ ws
