-- Coverage by length: for each edge and each length of 0 to 63 gates how many paths there are, and how many of their faults the store holds.
-- All of it is counted over path numbers one by one; the code counts by rows (specs/RowSums).
use Rattle.std.specs.Prelude.{◌≡◌, ◌↔◌, Bool, ◌&&◌, ℕ, ◌≤◌, ◌<◌, T, leb, eqb, length, get_or}
use mathlib.Core.List.{List, [], ◌∷◌, ◌++◌, map, Memᴰ, Nodup}
use Rattle.model.specs.Base.{Answer, refused, value, ◌into◌, ◌then◌, Rule, checks, sum_of, numbers_from}
use Rattle.model.specs.Netlist.{Netlist, counts, path_total}
use Rattle.model.specs.Path.{CircuitPath, Edge, valid, number_of, path_at, path_of}
use Rattle.model.specs.Runs.{in_runs, how_many}
use Rattle.model.specs.Read.{read_netlist}
use Rattle.model.specs.Store.{ByEdge, by_edge, of_edge, store_words_count, store_runs, store_rules}
use Rattle.model.specs.Calls.{store_rule, totals_call}

-- the lengths that are counted: 0 to 63 gates
abbrev pub lengths : ℕ
lengths = 64

-- A row: one number for each length
unfoldable pub row : (ℕ → ℕ) → List ℕ
row f = map f (numbers_from 0 lengths)

-- the number of gates on path number `k`: one for each pin
unfoldable pub length_of : Netlist → ℕ → ℕ
length_of N k = length (path_of N k).pins

abbrev pub of_length : Netlist → ℕ → ℕ → Bool
of_length N l k = eqb (length_of N k) l

-- how many of the paths 1 to `k` have `l` gates
unfoldable pub paths_up_to : Netlist → ℕ → ℕ → ℕ
paths_up_to N l k = how_many (of_length N l) k

-- how many of the paths 1 to `k` have `l` gates and lie in the set `P`
unfoldable pub held_up_to : Netlist → (ℕ → Bool) → ℕ → ℕ → ℕ
held_up_to N P l k = how_many (λ j. of_length N l j && P j) k

-- The rows of an edge: for each length the number of paths, and of faults of the edge that the store holds
pub record Rows : Type 0 where
  pub paths : List ℕ
  pub held : List ℕ

-- as words: the numbers of paths by length, then those of faults held, 64 each
abbrev pub row_words : Rows → List ℕ
row_words r = r.paths ++ r.held

-- the rows of both edges as words, rising, then falling
abbrev pub length_words : ByEdge Rows → List ℕ
length_words r = row_words r.on_rising ++ row_words r.on_falling

unfoldable pub rows_of : Netlist → List ℕ → Edge → Rows
rows_of N ws e = record {
  paths = row (λ l. paths_up_to N l (path_total N));
  held = row (λ l. held_up_to N (in_runs (store_runs ws e)) l (path_total N));
}

-- no path to an output has more than 63 gates
abbrev pub length_rule : Netlist → Rule
length_rule N = (84, eqb (how_many (λ k. leb lengths (length_of N k)) (path_total N)) 0)

unfoldable pub lengths_call : List ℕ → List ℕ → Answer (ByEdge Rows)
lengths_call netlist ws =
    checks (store_rule ws ∷ [])
    then read_netlist netlist
    into λ N. checks (store_rules (path_total N) ws ++ (length_rule N ∷ []))
    then value (by_edge (rows_of N ws))

-- Partial paths: how many of those 1 to `k` of a net have `l` gates, and how many of all of them
unfoldable pub partials_up_to : Netlist → ℕ → ℕ → ℕ → ℕ
partials_up_to N net l k = how_many (λ j. eqb (length (path_at N net net j)) l) k

unfoldable pub partials : Netlist → ℕ → ℕ → ℕ
partials N net l = partials_up_to N net l (get_or (counts N) net 0)

-- There are exactly `n` paths with a property: a list of them without a repeat has that length
pub record PathCount (P : CircuitPath → Type 0) (n : ℕ) : Type 0 where
  pub paths : List CircuitPath
  pub distinct : Nodup paths
  pub these : (p : CircuitPath) → Memᴰ p paths ↔ P p
  pub many : length paths ≡ n

-- a path of the netlist with `l` gates, one for each pin
pub record PathOfLength (N : Netlist) (l : ℕ) (p : CircuitPath) : Type 0 where
  pub of_netlist : T (valid N p)
  pub gates : length p.pins ≡ l

-- whose fault of the edge the store holds
pub record HeldOfLength (N : Netlist) (ws : List ℕ) (e : Edge) (l : ℕ) (p : CircuitPath) : Type 0 where
  pub path : PathOfLength N l p
  pub held : T (in_runs (store_runs ws e) (number_of N p))

-- a path of the netlist with more than 63 gates
pub record LongPath (N : Netlist) : Type 0 where
  pub path : CircuitPath
  pub of_netlist : T (valid N path)
  pub long : lengths ≤ length path.pins

-- What is claimed of an answer: for each edge and length it has the number of the paths with so many gates, and of those whose fault the store
-- holds; the rows add up to T and to the store's totals, no number of held faults passes that of the paths, and no path has 0 gates
pub record RowsTrue (netlist ws : List ℕ) (r : ByEdge Rows) : Type 0 where
  pub circuit : Netlist
  pub legal : read_netlist netlist ≡ value circuit
  pub paths_true : (e : Edge) (l : ℕ) → l < lengths → PathCount (PathOfLength circuit l) (get_or (of_edge r e).paths l 0)
  pub held_true : (e : Edge) (l : ℕ) → l < lengths → PathCount (HeldOfLength circuit ws e l) (get_or (of_edge r e).held l 0)
  pub paths_add : (e : Edge) → sum_of (of_edge r e).paths ≡ path_total circuit
  pub totals : ByEdge ℕ
  pub totals_gives : totals_call netlist ws ≡ value totals
  pub held_add : (e : Edge) → sum_of (of_edge r e).held ≡ of_edge totals e
  pub held_few : (e : Edge) (l : ℕ) → l < lengths → get_or (of_edge r e).held l 0 ≤ get_or (of_edge r e).paths l 0
  pub none_without_gate : (e : Edge) → get_or (of_edge r e).paths 0 0 ≡ 0

-- and of 84: past the checks before it, it is answered exactly where a path of the netlist has more than 63 gates
pub record TooLong : Type 0 where
  pub exactly : (netlist ws : List ℕ) (N : Netlist) → read_netlist netlist ≡ value N → length ws ≡ store_words_count → checks (store_rules (path_total N) ws) ≡ value tt
      → (lengths_call netlist ws ≡ refused 84) ↔ LongPath N
