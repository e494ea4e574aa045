-- The cases of the search along the runs: what is first from the number at hand on, with the runs that are left, is first of all.
use Rattle.model.proofs.Prelude.{ℕ, ◌≤◌, ◌<◌, ◌+◌, ◌-◌, ◌*◌, ◌/◌, ◌≡◌, ◌∙◌, ap, refl, sym, List, [], ◌∷◌, length, get_or, arith, rules}
use mir.Val.{Fits}
use mir.Syntax.{w64}
use Rattle.model.specs.Base.{value}
use Rattle.model.specs.Netlist.{Netlist}
use Rattle.model.specs.Runs.{Run, Separated}
use Rattle.model.specs.Read.{read_netlist}
use Rattle.model.proofs.AnswerLaws.{value_inj}
use Rattle.model.proofs.ReadLaws.{limits}
use Rattle.netlist.specs.declared.inner.Shape.{Shape}
use Rattle.run_lists.specs.RunLists.{run_at, runs_in_words}
use Rattle.run_lists.proofs.RunWordLaws.{runs-next}
use Rattle.length_rows.specs.Lengths.{lengths, of_length}
use Rattle.length_ranks.specs.NetRows.{Ranked}
use Rattle.length_search.specs.Untested.{first_of, untested, next_untested_of}
use Rattle.length_search.specs.Tasks.{Looked, all_runs}
use Rattle.length_search.specs.declared.inner.Search.{Search}
use Rattle.length_search.proofs.RangeCases.{past_all, past-run, found_before, none_before}

pub record Going (file ps cs : List ℕ) (shape : Shape) (rows : List (List ℕ)) (ws : List ℕ) (wanted : Search) (n at i : ℕ) : Type 0 where
  pub task : Looked file ps cs shape rows wanted.total ws wanted.gates wanted.from
  pub runs_are : n ≡ length ws / 2
  pub low : 1 ≤ at
  pub least : ℕ
  pub some : 1 ≤ least
  pub apart : Separated wanted.total least (runs_in_words ws i (n - i))
  pub whole : first_of (untested task.known.circuit (runs_in_words ws i (n - i)) wanted.gates) at wanted.total
      ≡ next_untested_of task.known.circuit (all_runs ws) wanted.gates wanted.from

module _ {file ps cs : List ℕ} {shape : Shape} {rows : List (List ℕ)} {ws : List ℕ} {wanted : Search} where
  pub go-start : Looked file ps cs shape rows wanted.total ws wanted.gates wanted.from
      → Going file ps cs shape rows ws wanted (length ws / 2) wanted.from 0
  unfolding next_untested_of
  go-start t =
      let all : length ws / 2 - 0 ≡ length ws / 2 = omega arith in
      record {
        task = t;
        runs_are = refl;
        low = t.low;
        least = 1;
        some = omega arith;
        apart = rw all t.apart;
        whole = rw all (ap (first_of (untested t.known.circuit (all_runs ws) wanted.gates) wanted.from) t.total_is);
      }

  module _ {n at i : ℕ} (g : Going file ps cs shape rows ws wanted n at i) where
    abbrev C : Netlist
    C = g.task.known.circuit

    legal : read_netlist file ≡ value C
    legal = g.task.known.tables.legal

    pub go-short : wanted.gates < lengths
    go-short = g.task.short

    pub go-low : 1 ≤ at
    go-low = g.low

    every : (x : ℕ) → x ≡ next_untested_of C (all_runs ws) wanted.gates wanted.from
        → (M : Netlist) → read_netlist file ≡ value M → x ≡ next_untested_of M (all_runs ws) wanted.gates wanted.from
    every x e M k = e ∙ ap (λ (K : Netlist). next_untested_of K (all_runs ws) wanted.gates wanted.from) (value_inj (sym legal ∙ k))

    -- After the last run
    module _ (done : n ≤ i) where
      pub go-last : Ranked file ps cs shape rows wanted.total
      go-last = record { known = g.task.known; high = omega (arith, g.task.total_is) }

      pub go-end : (x : ℕ) → ((M : Netlist) → read_netlist file ≡ value M → x ≡ first_of (of_length M wanted.gates) at wanted.total)
          → (M : Netlist) → read_netlist file ≡ value M → x ≡ next_untested_of M (all_runs ws) wanted.gates wanted.from
      go-end x f =
          let none : n - i ≡ 0 = omega arith in
          let left : runs_in_words ws i (n - i) ≡ [] = ap (runs_in_words ws i) none in
          every x
          (f C legal ∙ past_all C wanted.gates wanted.total at
          ∙ sym (ap (λ (rs : List Run). first_of (untested C rs wanted.gates) at wanted.total) left) ∙ g.whole)

    -- At a run
    module _ (left : i < n) where
      pub low-place : 2 * i < length ws
      low-place = omega (arith, g.runs_are)

      pub high-place : 2 * i + 1 < length ws
      high-place = omega (arith, g.runs_are)

      abbrev rest : List Run
      rest = runs_in_words ws (i + 1) (n - (i + 1))

      next : runs_in_words ws i (n - i) ≡ run_at ws i ∷ rest
      next = runs-next ws i n left

      here : Separated wanted.total g.least (run_at ws i ∷ rest)
      here = rw next at g.apart

      whole_here : first_of (untested C (run_at ws i ∷ rest) wanted.gates) at wanted.total ≡ next_untested_of C (all_runs ws) wanted.gates wanted.from
      whole_here = sym (ap (λ (rs : List Run). first_of (untested C rs wanted.gates) at wanted.total) next) ∙ g.whole

      pub run-some : 1 ≤ get_or ws (2 * i) 0
      run-some = omega (arith, here.0, g.some)

      pub run-ranked : Ranked file ps cs shape rows (get_or ws (2 * i) 0 - 1)
      run-ranked = record { known = g.task.known; high = omega (arith, here.1, here.2, g.task.total_is) }

      pub run_fits : Fits w64 (get_or ws (2 * i + 1) 0 + 1)
      run_fits = record { fits = omega (arith, here.2, g.task.total_is, (limits file C legal).total_fits) }

      pub go-past : get_or ws (2 * i + 1) 0 < at → Going file ps cs shape rows ws wanted n at (i + 1)
      go-past h = record {
        task = g.task;
        runs_are = g.runs_are;
        low = g.low;
        least = get_or ws (2 * i + 1) 0 + 2;
        some = omega arith;
        apart = here.3;
        whole = sym (past-run C wanted.gates wanted.total (run_at ws i) rest here at g.low h) ∙ whole_here;
      }

      module _ (within : at ≤ get_or ws (2 * i + 1) 0) (found : ℕ)
          (f : (M : Netlist) → read_netlist file ≡ value M → found ≡ first_of (of_length M wanted.gates) at (get_or ws (2 * i) 0 - 1)) where
        pub go-found : (found ≡ 0 → ⊥) → (M : Netlist) → read_netlist file ≡ value M → found ≡ next_untested_of M (all_runs ws) wanted.gates wanted.from
        go-found h =
            let e : found ≡ first_of (of_length C wanted.gates) at (get_or ws (2 * i) 0 - 1) = f C legal in
            every found (e ∙ found_before C wanted.gates wanted.total (run_at ws i) rest here at g.low within (omega (arith, h)) ∙ whole_here)

        pub go_on : found ≡ 0 → Going file ps cs shape rows ws wanted n (get_or ws (2 * i + 1) 0 + 1) (i + 1)
        go_on h = record {
          task = g.task;
          runs_are = g.runs_are;
          low = omega arith;
          least = get_or ws (2 * i + 1) 0 + 2;
          some = omega arith;
          apart = here.3;
          whole = sym (none_before C wanted.gates wanted.total (run_at ws i) rest here at g.low within (sym (f C legal) ∙ h)) ∙ whole_here;
        }

pub ruleset go-cases = (go-start, go-short, go-low, go-last, go-end, low-place, high-place, run-some, run-ranked, run_fits, go-past, go-found, go_on, rules)
