-- The cases of the search from the greatest length down: what it finds from the length at hand on is what it finds from the first.
use Rattle.model.proofs.Prelude.{ℕ, ◌≤◌, ◌<◌, ◌-◌, ◌^◌, ◌≡◌, ◌∙◌, ap, refl, sym, subst, ap₂, true, false, List, length, get_or, eqb, arith, rules}
use Rattle.model.proofs.Prelude.{ne_eqb, eq-eqb}
use Rattle.model.specs.Base.{Answer, refused, value, sum_of}
use Rattle.model.specs.Netlist.{Netlist, path_total}
use Rattle.model.specs.Path.{rising}
use Rattle.model.specs.Runs.{in_runs}
use Rattle.model.specs.Read.{read_netlist}
use Rattle.model.specs.Store.{empty_store}
use Rattle.model.specs.declared.Refusal.TheVariants as why
use Rattle.model.proofs.AnswerLaws.{value_inj}
use Rattle.model.proofs.ReadLaws.{limits}
use Rattle.netlist.specs.declared.inner.Shape.{Shape}
use Rattle.run_lists.specs.RunLists.{Sound}
use Rattle.length_rows.specs.Lengths.{lengths, row, paths_up_to, held_up_to, rows_of, length_rule}
use Rattle.length_rows.proofs.RowLaws.{row_at, row-length}
use Rattle.length_rows.proofs.LengthsHold.{paths-add, too_long}
use Rattle.length_ranks.specs.NetRows.{Ranked}
use Rattle.length_coverage.specs.LengthAnswers.{in_words, RunsRanked}
use Rattle.length_search.specs.Untested.{Untested, next_untested_of, longest_from}
use Rattle.length_search.specs.Tasks.{Looked, all_runs}
use Rattle.length_search.specs.declared.inner.Search.{Search}
use Rattle.length_untested.specs.LongestPaths.{untested_of, longest_in, longest_of, Ready}
use Rattle.length_untested.specs.declared.UntestedPath.{UntestedPath}
use Rattle.std.specs.Prelude.{Option, Some, None, Ok, Err}
use Rattle.length_untested.proofs.FullLengthLaws.{full-length, longest_none, longest_found}

pub record Down (file ps cs : List ℕ) (shape : Shape) (rows : List (List ℕ)) (ws : List ℕ) (paths held : List ℕ) (total first begin gates from : ℕ)
    : Type 0 where
  pub runs : RunsRanked file ps cs shape rows ws
  pub total_is : total ≡ path_total runs.known.circuit
  pub paths_are : (l : ℕ) → l < lengths → get_or paths l 0 ≡ paths_up_to runs.known.circuit l (path_total runs.known.circuit)
  pub held_are : (l : ℕ) → l < lengths
      → get_or held l 0 ≡ held_up_to runs.known.circuit (in_runs (all_runs ws)) l (path_total runs.known.circuit)
  pub short : gates < lengths
  pub low : 1 ≤ from
  pub whole : longest_from runs.known.circuit (all_runs ws) gates from
      ≡ longest_from runs.known.circuit (all_runs ws) first begin

module _ {file ps cs : List ℕ} {shape : Shape} {rows : List (List ℕ)} {ws : List ℕ} where
  pub down-runs : {wanted : Search} → Ready file ps cs shape rows ws wanted → RunsRanked file ps cs shape rows ws
  down-runs t = t.runs

  pub down-start : {wanted : Search} (t : Ready file ps cs shape rows ws wanted) (paths : List ℕ)
      → ((M : Netlist) → read_netlist file ≡ value M → paths ≡ row (λ l. paths_up_to M l wanted.total))
      → (held : List ℕ) → ((M : Netlist) → read_netlist file ≡ value M → held ≡ row (λ l. held_up_to M (in_words ws) l (path_total M)))
      → Down file ps cs shape rows ws paths held wanted.total wanted.gates wanted.from wanted.gates wanted.from
  down-start {wanted} t paths fp held fh =
      let read : read_netlist file ≡ value t.runs.known.circuit = t.runs.known.tables.legal in
      record {
        runs = t.runs;
        total_is = t.total_is;
        paths_are = λ l h.
            ap (λ (x : List ℕ). get_or x l 0) (fp t.runs.known.circuit read) ∙ row_at (λ k. paths_up_to t.runs.known.circuit k wanted.total) l h
            ∙ ap (paths_up_to t.runs.known.circuit l) t.total_is;
        held_are = λ l h.
            ap (λ (x : List ℕ). get_or x l 0) (fh t.runs.known.circuit read)
            ∙ row_at (λ k. held_up_to t.runs.known.circuit (in_words ws) k (path_total t.runs.known.circuit)) l h;
        short = t.begins.short;
        low = t.begins.low;
        whole = refl;
      }

  module _ {paths held : List ℕ} {total first begin gates from : ℕ} (d : Down file ps cs shape rows ws paths held total first begin gates from) where
    abbrev C : Netlist
    C = d.runs.known.circuit

    legal : read_netlist file ≡ value C
    legal = d.runs.known.tables.legal

    every : (x : Untested) → x ≡ longest_from C (all_runs ws) first begin
        → (M : Netlist) → read_netlist file ≡ value M → x ≡ longest_from M (all_runs ws) first begin
    every x e M k = e ∙ ap (λ (K : Netlist). longest_from K (all_runs ws) first begin) (value_inj (sym legal ∙ k))

    pub down-short : gates < 64
    down-short = d.short

    pub down-looked : Looked file ps cs shape rows total ws gates from
    down-looked = record {
      known = d.runs.known;
      total_is = d.total_is;
      apart = subst (λ k. Sound k (all_runs ws)) (sym d.total_is) d.runs.apart;
      short = d.short;
      low = d.low;
    }

    -- no length is left
    pub down-end : gates ≤ 0 → (M : Netlist) → read_netlist file ≡ value M
        → untested_of None ≡ longest_from M (all_runs ws) first begin
    unfolding longest_from
    down-end h = let z : 0 ≡ gates = omega arith in every (untested_of None) (ap (λ k. longest_from C (all_runs ws) k from) z ∙ d.whole)

    module _ (some : 0 < gates) where
      on : next_untested_of C (all_runs ws) gates from ≡ 0 → Down file ps cs shape rows ws paths held total first begin (gates - 1) 1
      on e = record {
        runs = d.runs;
        total_is = d.total_is;
        paths_are = d.paths_are;
        held_are = d.held_are;
        short = omega (arith, d.short);
        low = omega arith;
        whole = sym (longest_none C (all_runs ws) gates from some e) ∙ d.whole;
      }

      pub down-full : get_or paths gates 0 ≡ get_or held gates 0 → Down file ps cs shape rows ws paths held total first begin (gates - 1) 1
      down-full h = on (full-length C (all_runs ws) gates from d.low (sym (d.paths_are gates d.short) ∙ h ∙ d.held_are gates d.short))

      module _ (path : ℕ) (f : (M : Netlist) → read_netlist file ≡ value M → path ≡ next_untested_of M (all_runs ws) gates from) where
        pub down-on : path ≡ 0 → Down file ps cs shape rows ws paths held total first begin (gates - 1) 1
        down-on h = on (sym (f C legal) ∙ h)

        pub down-found : (path ≡ 0 → ⊥) → (M : Netlist) → read_netlist file ≡ value M
            → untested_of (Some (record { gates = gates; path = path })) ≡ longest_from M (all_runs ws) first begin
        down-found n =
            let e : path ≡ next_untested_of C (all_runs ws) gates from = f C legal in
            let found = longest_found C (all_runs ws) gates from some (λ z. n (e ∙ z)) in
            every (untested_of (Some (record { gates = gates; path = path }))) (ap (λ (k : ℕ). record { gates = gates; path = k }) e ∙ sym found ∙ d.whole)

pub ruleset down-cases = (down-runs, down-start, down-short, down-end, down-full, down-on, down-found, rules)

-- ---- one path is too long, or the search

module _ {file ps cs : List ℕ} {shape : Shape} {rows : List (List ℕ)} {ws : List ℕ} {wanted : Search} (t : Ready file ps cs shape rows ws wanted) where
  abbrev K : Netlist
  K = t.runs.known.circuit

  read : read_netlist file ≡ value K
  read = t.runs.known.tables.legal

  pub all-ranked : Ranked file ps cs shape rows wanted.total
  all-ranked = record { known = t.runs.known; high = omega (arith, t.total_is) }

  module _ (paths : List ℕ) (fp : (M : Netlist) → read_netlist file ≡ value M → paths ≡ row (λ l. paths_up_to M l wanted.total)) where
    paths-are : paths ≡ (rows_of K empty_store rising).paths
    unfolding rows_of
    paths-are = fp K read ∙ ap (λ n. row (λ l. paths_up_to K l n)) t.total_is

    pub all-long : length paths ≡ lengths
    all-long = ap (λ (x : List ℕ). length x) (fp K read) ∙ row-length (λ l. paths_up_to K l wanted.total)

    pub all_fit : sum_of paths < 2 ^ 64
    all_fit = omega (arith, ap sum_of paths-are, paths-add K empty_store rising, (limits file K read).total_fits)

    module _ (sum : ℕ) (es : sum ≡ sum_of paths) where
      rule_is : (length_rule K).1 ≡ eqb sum wanted.total
      rule_is = too_long K empty_store rising ∙ ap₂ eqb (sym (es ∙ ap sum_of paths-are)) (sym t.total_is)

      pub all-too_long : (sum ≡ wanted.total → ⊥) → (M : Netlist) → read_netlist file ≡ value M
          → longest_of (Err why.PathTooLong) ≡ longest_in M (all_runs ws) wanted.gates wanted.from
      unfolding longest_in
      all-too_long ne M e =
          let no : (length_rule K).1 ≡ false = rule_is ∙ ne_eqb sum wanted.total ne in
          let here : refused 84 ≡ longest_in K (all_runs ws) wanted.gates wanted.from = rw no refl in
          here ∙ ap (λ (L : Netlist). longest_in L (all_runs ws) wanted.gates wanted.from) (value_inj (sym read ∙ e))

      pub all_found : sum ≡ wanted.total → (r : Option UntestedPath)
          → ((M : Netlist) → read_netlist file ≡ value M → untested_of r ≡ longest_from M (all_runs ws) wanted.gates wanted.from)
          → (M : Netlist) → read_netlist file ≡ value M → longest_of (Ok r) ≡ longest_in M (all_runs ws) wanted.gates wanted.from
      unfolding longest_in
      all_found eq r f M e =
          let yes : (length_rule K).1 ≡ true = rule_is ∙ eq-eqb sum wanted.total eq in
          let here : value (longest_from K (all_runs ws) wanted.gates wanted.from) ≡ longest_in K (all_runs ws) wanted.gates wanted.from = rw yes refl in
          ap value (f K read) ∙ here ∙ ap (λ (L : Netlist). longest_in L (all_runs ws) wanted.gates wanted.from) (value_inj (sym read ∙ e))

pub ruleset all-cases = (all-ranked, all-long, all_fit, all-too_long, all_found, rules)
