-- The cases of the faults held by length: a run by the paths up to its ends, and the runs one after the other.
use Rattle.model.proofs.Prelude.{ℕ, ◌≤◌, ◌<◌, ◌+◌, ◌-◌, ◌*◌, ◌/◌, ◌≡◌, ◌∙◌, ap, refl, sym, ap₂, List, ◌∷◌, length, get_or, replicate, length-replicate}
use Rattle.model.proofs.Prelude.{get_or-replicate, arith, rules}
use Rattle.model.specs.Base.{value}
use Rattle.model.specs.Netlist.{Netlist, path_total}
use Rattle.model.specs.Runs.{Run, Separated, in_runs}
use Rattle.model.specs.Read.{read_netlist}
use Rattle.model.proofs.AnswerLaws.{value_inj}
use Rattle.model.proofs.ReadLaws.{limits}
use Rattle.netlist.specs.declared.inner.Shape.{Shape}
use Rattle.run_lists.specs.RunLists.{run_at, runs_in_words}
use Rattle.run_lists.proofs.RunWordLaws.{runs-next}
use Rattle.length_rows.specs.Lengths.{lengths, row, paths_up_to, held_up_to}
use Rattle.length_rows.specs.RowSums.{Room, Under, added}
use Rattle.length_rows.proofs.RowLaws.{row_at, row_is, added-at, added-length, added-same}
use Rattle.length_rows.proofs.PathLengthLaws.{paths-few, paths-grow}
use Rattle.length_rows.proofs.LengthsHold.{held_none, held_first, held-few}
use Rattle.length_ranks.specs.NetRows.{RowTables, Ranked, Small}
use Rattle.length_coverage.specs.LengthAnswers.{RunsRanked, in_words}

-- One run
module _ {file ps cs : List ℕ} {shape : Shape} {rows : List (List ℕ)} {low high : ℕ} (r : Ranked file ps cs shape rows high) (order : low ≤ high) where
  abbrev N : Netlist
  N = r.known.circuit

  abbrev read : read_netlist file ≡ value N
  read = r.known.tables.legal

  pub lower-ranked : Ranked file ps cs shape rows (low - 1)
  lower-ranked = record { known = r.known; high = omega (arith, r.high) }

  module _ {upper lower : List ℕ} (eu : (M : Netlist) → read_netlist file ≡ value M → upper ≡ row (λ l. paths_up_to M l high))
      (el : (M : Netlist) → read_netlist file ≡ value M → lower ≡ row (λ l. paths_up_to M l (low - 1))) where
    at-upper : (M : Netlist) → read_netlist file ≡ value M → (l : ℕ) → l < lengths → get_or upper l 0 ≡ paths_up_to M l high
    at-upper M e l h = ap (λ (x : List ℕ). get_or x l 0) (eu M e) ∙ row_at (λ k. paths_up_to M k high) l h

    at-lower : (M : Netlist) → read_netlist file ≡ value M → (l : ℕ) → l < lengths → get_or lower l 0 ≡ paths_up_to M l (low - 1)
    at-lower M e l h = ap (λ (x : List ℕ). get_or x l 0) (el M e) ∙ row_at (λ k. paths_up_to M k (low - 1)) l h

    pub run-under : Under lower upper
    run-under = record { under = λ l h. omega (arith, at-upper N read l h, at-lower N read l h, paths-grow N l {m = low - 1} {n = high} (omega arith)) }

    module _ {ns : List ℕ} (s : Small ns) where
      pub run_room : Room ns (λ l. get_or upper l 0 - get_or lower l 0)
      run_room = record {
        long = s.long;
        fits = λ l h. omega (arith, s.few l h, at-upper N read l h, paths-few N l high, r.high, (limits file N read).total_fits);
      }

      pub run-added : {ms : List ℕ} → ms ≡ added ns (λ l. get_or upper l 0 - get_or lower l 0)
          → (M : Netlist) → read_netlist file ≡ value M → ms ≡ added ns (λ l. paths_up_to M l high - paths_up_to M l (low - 1))
      run-added e M k = e ∙ added-same ns (λ l h. ap₂ (λ a b. a - b) (at-upper M k l h) (at-lower M k l h))

-- The runs: what is added so far, with what the runs that are left hold, is the whole
pub record Added (file ps cs : List ℕ) (shape : Shape) (rows : List (List ℕ)) (ws : List ℕ) (ms : List ℕ) (n i : ℕ) : Type 0 where
  pub known : RowTables file ps cs shape rows
  pub runs_are : n ≡ length ws / 2
  pub least : ℕ
  pub some : 1 ≤ least
  pub apart : Separated (path_total known.circuit) least (runs_in_words ws i (n - i))
  pub long : length ms ≡ lengths
  pub whole : (l : ℕ) → l < lengths
      → get_or ms l 0 + held_up_to known.circuit (in_runs (runs_in_words ws i (n - i))) l (path_total known.circuit)
      ≡ held_up_to known.circuit (in_words ws) l (path_total known.circuit)

module _ {file ps cs : List ℕ} {shape : Shape} {rows : List (List ℕ)} {ws : List ℕ} where
  pub held_start : RunsRanked file ps cs shape rows ws → Added file ps cs shape rows ws (replicate lengths 0) (length ws / 2) 0
  held_start r =
      let all : length ws / 2 - 0 ≡ length ws / 2 = omega arith in
      record {
        known = r.known;
        runs_are = refl;
        least = 1;
        some = omega arith;
        apart = rw all r.apart;
        long = length-replicate {A = ℕ} lengths 0;
        whole = λ l h. rw all (omega (arith, get_or-replicate {A = ℕ} lengths l 0 0 h));
      }

  module _ {ms : List ℕ} {n i : ℕ} (a : Added file ps cs shape rows ws ms n i) where
    abbrev C : Netlist
    C = a.known.circuit

    abbrev T : ℕ
    T = path_total C

    legal : read_netlist file ≡ value C
    legal = a.known.tables.legal

    pub held-end : n ≤ i → (M : Netlist) → read_netlist file ≡ value M → ms ≡ row (λ l. held_up_to M (in_words ws) l (path_total M))
    held-end h M e =
        let none : n - i ≡ 0 = omega arith in
        row_is ms (λ l. held_up_to C (in_words ws) l T) a.long
        (λ l b.
        let left : held_up_to C (in_runs (runs_in_words ws i (n - i))) l T ≡ 0 = ap (λ k. held_up_to C (in_runs (runs_in_words ws i k)) l T) none ∙ held_none C l T in
        omega (arith, a.whole l b))
        ∙ ap (λ (K : Netlist). row (λ l. held_up_to K (in_words ws) l (path_total K))) (value_inj (sym legal ∙ e))

    pub held_small : Small ms
    held_small = record {
      long = a.long;
      few = λ l h. omega (arith, a.whole l h, held-few C l (in_words ws) T, paths-few C l T, (limits file C legal).total_fits);
    }

    module _ (left : i < n) where
      pub low-place : 2 * i < length ws
      low-place = omega (arith, a.runs_are)

      pub high-place : 2 * i + 1 < length ws
      high-place = omega (arith, a.runs_are)

      next : runs_in_words ws i (n - i) ≡ run_at ws i ∷ runs_in_words ws (i + 1) (n - (i + 1))
      next = runs-next ws i n left

      here : Separated T a.least (run_at ws i ∷ runs_in_words ws (i + 1) (n - (i + 1)))
      here = rw next at a.apart

      pub run-low : 1 ≤ get_or ws (2 * i) 0
      run-low = omega (arith, here.0, a.some)

      pub run-order : get_or ws (2 * i) 0 ≤ get_or ws (2 * i + 1) 0
      run-order = here.1

      pub run-ranked : Ranked file ps cs shape rows (get_or ws (2 * i + 1) 0)
      run-ranked = record { known = a.known; high = here.2 }

      pub held_next : {ms' : List ℕ}
          → ((M : Netlist) → read_netlist file ≡ value M → ms' ≡ added ms (λ l. paths_up_to M l (get_or ws (2 * i + 1) 0) - paths_up_to M l (get_or ws (2 * i) 0 - 1)))
          → Added file ps cs shape rows ws ms' n (i + 1)
      held_next e =
          let f : ℕ → ℕ = λ l. paths_up_to C l (get_or ws (2 * i + 1) 0) - paths_up_to C l (get_or ws (2 * i) 0 - 1) in
          record {
            known = a.known;
            runs_are = a.runs_are;
            least = get_or ws (2 * i + 1) 0 + 2;
            some = omega arith;
            apart = here.3;
            long = ap (λ (x : List ℕ). length x) (e C legal) ∙ added-length ms f;
            whole = λ l h.
                let first : held_up_to C (in_runs (runs_in_words ws i (n - i))) l T ≡ f l + held_up_to C (in_runs (runs_in_words ws (i + 1) (n - (i + 1)))) l T =
                ap (λ (x : List Run). held_up_to C (in_runs x) l T) next ∙ held_first C l (run_at ws i) (runs_in_words ws (i + 1) (n - (i + 1))) a.some here in
                omega (arith, ap (λ (x : List ℕ). get_or x l 0) (e C legal), added-at ms f l h, first, a.whole l h);
          }

pub ruleset held-cases = (held_start, held_small, low-place, high-place, run-low, run-order, run-ranked, held_next, rules)
