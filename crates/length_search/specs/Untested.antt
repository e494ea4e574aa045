-- The longest paths that are not tested: for one edge, those of the greatest length first, and those of one length by their numbers.
-- All of it is looked for over path numbers one by one; the code looks by the numbers of paths up to a number (length_rows/specs/Lengths).
-- Names: `rs` are the runs of an edge in a store, the path numbers whose fault of that edge it holds.
use Rattle.std.specs.Prelude.{◌≡◌, Bool, true, false, ◌&&◌, not, List, ℕ, zero, suc, ◌-◌, ◌≤◌, eqb}
use Rattle.model.specs.Netlist.{Netlist, path_total}
use Rattle.model.specs.Runs.{Run, in_runs}
use Rattle.length_rows.specs.Lengths.{length_of, of_length}

-- the first of the numbers from `k` on, `n` of them, that passes the test; 0 where none does
unfoldable pub first_from : (ℕ → Bool) → ℕ → ℕ → ℕ
first_from P k zero = 0
first_from P k (suc n) = elim (P k) [ true ↦ k | false ↦ first_from P (suc k) n ]

-- the first from `from` to `last`
abbrev pub first_of : (ℕ → Bool) → ℕ → ℕ → ℕ
first_of P from last = first_from P from (suc last - from)

-- path number `k` has `l` gates, and its fault is in none of the runs
abbrev pub untested : Netlist → List Run → ℕ → ℕ → Bool
untested N rs l k = of_length N l k && not (in_runs rs k)

-- The first untested path of `l` gates from number `from` on; 0 where there is none
unfoldable pub next_untested_of : Netlist → List Run → ℕ → ℕ → ℕ
next_untested_of N rs l from = first_of (untested N rs l) from (path_total N)

-- an untested path: its length and its number, both 0 where there is none
pub record Untested : Type 0 where
  pub gates : ℕ
  pub path : ℕ

abbrev pub no_untested : Untested
no_untested = record { gates = 0; path = 0 }

-- The first untested path of `l` gates from number `from` on, else the first one of the greatest length below. From 63 gates and number 1 on it is
-- the first of the longest untested paths; from its own length and the number after its own on, the next one. No path has 0 gates
unfoldable pub longest_from : Netlist → List Run → ℕ → ℕ → Untested
longest_from N rs zero from = no_untested
longest_from N rs (suc l) from =
    elim (eqb (next_untested_of N rs (suc l) from) 0) [
      | true ↦ longest_from N rs l 1
      | false ↦ record { gates = suc l; path = next_untested_of N rs (suc l) from }
    ]

-- What is claimed of the path that is found among those of up to `l` gates from number 1 on: it is an untested path of its length, and every other
-- one is shorter, or as long with a higher number; where none is found, the fault of every path of 1 to `l` gates is held
pub record LongestTrue (N : Netlist) (rs : List Run) (l : ℕ) (u : Untested) : Type 0 where
  pub is_path : 1 ≤ u.path → u.path ≤ path_total N
  pub length : 1 ≤ u.path → length_of N u.path ≡ u.gates
  pub not_held : 1 ≤ u.path → in_runs rs u.path ≡ false
  pub others : (k : ℕ) → 1 ≤ k → k ≤ path_total N → 1 ≤ length_of N k → length_of N k ≤ l → in_runs rs k ≡ false → length_of N k ≤ u.gates
  pub earlier : (k : ℕ) → 1 ≤ k → k ≤ path_total N → length_of N k ≡ u.gates → in_runs rs k ≡ false → 1 ≤ u.gates → u.path ≤ k
  pub none : u.path ≡ 0 → u.gates ≡ 0
