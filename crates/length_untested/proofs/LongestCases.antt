-- The cases of the call: where it begins; store length, netlist and the store's words are refused in this order, then the search.
use Rattle.model.proofs.Prelude.{ℕ, ◌≤◌, ◌<◌, ◌^◌, ◌/◌, ◌≡◌, ◌∙◌, ap, refl, sym, subst, true, Bool, false, List, [], ◌∷◌, ◌++◌, length, leb, arith}
use Rattle.model.proofs.Prelude.{rules, le-leb, lt-leb, ne_eqb, eq-eqb}
use Rattle.model.specs.Base.{Answer, refused, value, ◌then◌, checks}
use Rattle.model.specs.Netlist.{Netlist, path_total}
use Rattle.model.specs.Path.{Edge}
use Rattle.model.specs.Runs.{Run}
use Rattle.model.specs.Read.{read_netlist}
use Rattle.model.specs.Refusals.{refusal_number_of}
use Rattle.model.specs.Store.{store_words_count, store_rules, store_runs}
use Rattle.model.specs.declared.Refusal.{Refusal}
use Rattle.model.specs.declared.Refusal.TheVariants as why
use Rattle.model.proofs.AnswerLaws.{checks-both, value_inj}
use Rattle.model.proofs.BoolLaws.{cases}
use Rattle.model.proofs.ReadLaws.{limits}
use Rattle.netlist.specs.Answers.{LegalLoad, LoadTrue}
use Rattle.netlist.specs.Tables.{SomeCircuit}
use Rattle.netlist.specs.declared.inner.Shape.{Shape}
use Rattle.netlist.proofs.LoadCases.{zeros-are}
use Rattle.run_lists.specs.RunLists.{runs_in_words}
use Rattle.store_words.specs.Sound.{FewRuns, edge_words}
use Rattle.store_words.proofs.SoundLaws.{sound-words}
use Rattle.length_rows.specs.Lengths.{length_rule}
use Rattle.length_ranks.specs.NetRows.{NetRows}
use Rattle.length_coverage.proofs.CountingCases.{edge-ranked, some-circuit, rows-known}
use Rattle.store_words.proofs.RunPlaceLaws.{edge-words-runs, edge-words-fit}
use Rattle.length_search.specs.Untested.{Untested, longest_from}
use Rattle.length_search.specs.Tasks.{all_runs}
use Rattle.length_search.specs.declared.inner.Search.{Search}
use Rattle.length_untested.specs.LongestPaths.{begin_gates, begin_from, longest_in, longest_call, longest_of, Begins, Ready, Prepared}
use Rattle.length_untested.specs.declared.UntestedPath.{UntestedPath}
use Rattle.std.specs.Prelude.{Option, Result, Ok, Err}
use Rattle.netlist.specs.declared.inner.LegalNetlist.{LegalNetlist}
use Rattle.model.specs.Returned.{answer_of}

-- ---- where a search begins

abbrev begun : ℕ → ℕ → ℕ → Search
begun gates from total = record { gates = begin_gates gates; from = begin_from gates from; total = total }

abbrev gates_by : ℕ → Bool → ℕ
gates_by gates b = elim b [ true ↦ gates | false ↦ 63 ]

abbrev from_by : Bool → Bool → ℕ → ℕ
from_by b c from = elim b [ true ↦ elim c [ true ↦ from | false ↦ 1 ] | false ↦ 1 ]

module _ (gates from total : ℕ) where
  pub begin_long : 63 < gates → record { gates = 63; from = 1; total = total } ≡ begun gates from total
  begin_long h =
      let q = lt-leb gates 63 h in
      sym (λ k. record { gates = gates_by gates (q k); from = from_by (q k) (leb 1 from) from; total = total })

  pub begin_none : gates ≤ 63 → from < 1 → record { gates = gates; from = 1; total = total } ≡ begun gates from total
  begin_none h l =
      let q = le-leb gates 63 h in
      let p = lt-leb 1 from l in
      sym (λ k. record { gates = gates_by gates (q k); from = from_by (q k) (p k) from; total = total })

  pub begin_some : gates ≤ 63 → 1 ≤ from → record { gates = gates; from = from; total = total } ≡ begun gates from total
  begin_some h l =
      let q = le-leb gates 63 h in
      let p = le-leb 1 from l in
      sym (λ k. record { gates = gates_by gates (q k); from = from_by (q k) (p k) from; total = total })

  begins : Begins (begun gates from total)
  begins =
      cases gates 63
      (λ h. cases 1 from
      (λ l. subst Begins (begin_some h l) (record { short = omega arith; low = l }))
      (λ l. subst Begins (begin_none h l) (record { short = omega arith; low = omega arith })))
      (λ h. subst Begins (begin_long h) (record { short = omega arith; low = omega arith }))

pub ruleset begin-cases = (begin_long, begin_none, begin_some, rules)

-- ---- the rows of the nets and the runs of the edge

module _ {file ps cs : List ℕ} {shape : Shape} {ws : List ℕ} {wanted : Search} (t : Prepared file ps cs shape ws wanted) where
  pub on-circuit : SomeCircuit file ps shape
  on-circuit = some-circuit t.countable

  pub on-few : FewRuns ws
  on-few = t.countable.sound.few

  module _ (rows : List (List ℕ)) (er : (M : Netlist) → read_netlist file ≡ value M → NetRows M shape.nets rows) (e : Edge) (part : List ℕ)
      (ep : part ≡ edge_words ws e) where
    pub on-ready : Ready file ps cs shape rows part wanted
    on-ready =
        let r = edge-ranked (rows-known t.countable er) e part ep in
        record {
          runs = r;
          total_is = t.countable.total_is ∙ ap path_total (value_inj (sym t.countable.tables.legal ∙ r.known.tables.legal));
          begins = t.begins;
        }

    runs-are : all_runs part ≡ store_runs ws e
    runs-are =
        let many : length (edge_words ws e) / 2 ≡ Rattle.model.specs.Store.run_count ws e = omega (arith, edge-words-fit ws e on-few) in
        ap all_runs ep ∙ ap (λ k. runs_in_words (edge_words ws e) 0 k) many ∙ edge-words-runs ws e

    pub on-found : (r : Result (Option UntestedPath) Refusal) → ((M : Netlist) → read_netlist file ≡ value M → longest_of r ≡ longest_in M (all_runs part) wanted.gates wanted.from)
        → (M : Netlist) → read_netlist file ≡ value M → longest_of r ≡ longest_in M (store_runs ws e) wanted.gates wanted.from
    on-found r f M k = f M k ∙ ap (λ (rs : List Run). longest_in M rs wanted.gates wanted.from) runs-are

-- ---- the call

module _ (file ws : List ℕ) (l : length ws ≡ store_words_count) (cs ps : List ℕ) (a : Result LegalNetlist Refusal) (la : LoadTrue a file cs ps) (l0 : LegalNetlist)
    (q : a ≡ Ok l0) where
  legal-load : LegalLoad file cs ps l0.shape l0.total
  legal-load = rw q at la

  pub call-fit : l0.total ≤ 2 ^ 62
  call-fit = omega (arith, legal-load.total_is, (limits file legal-load.circuit legal-load.tables.legal).total_fits)

  pub call-prepared : (c : Result (Unit {0}) Refusal) → answer_of c ≡ checks (store_rules l0.total ws) → c ≡ Ok tt
      → (gates from : ℕ) (wanted : Search) → wanted ≡ begun gates from l0.total → Prepared file ps cs l0.shape ws wanted
  call-prepared c checked k gates from wanted ew = subst (λ (x : Search). Prepared file ps cs l0.shape ws x) (sym ew)
      (record {
        countable = record {
          circuit = legal-load.circuit;
          tables = legal-load.tables;
          total_is = legal-load.total_is;
          sound = sound-words l0.total ws l (sym (ap answer_of k) ∙ checked);
        };
        begins = begins gates from l0.total;
      })

module _ (file ws : List ℕ) (e : Edge) (gates from : ℕ) where
  pub call-short : (length ws ≡ store_words_count → ⊥) → longest_of (Err why.StoreLength) ≡ longest_call file ws e gates from
  unfolding longest_call
  call-short d = rw (ne_eqb (length ws) store_words_count d) refl

  module _ (l : length ws ≡ store_words_count) (cs ps : List ℕ) (a : Result LegalNetlist Refusal) (la : LoadTrue a file cs ps) where
    pub call-netlist : (w : Refusal) → a ≡ Err w → longest_of (Err w) ≡ longest_call file ws e gates from
    unfolding longest_call
    call-netlist w q =
        let n : read_netlist file ≡ refused (refusal_number_of w) = rw q at la in
        rw (eq-eqb (length ws) store_words_count l, n) refl

    module _ (l0 : LegalNetlist) (q : a ≡ Ok l0) where
      is : LegalLoad file cs ps l0.shape l0.total
      is = rw q at la

      abbrev N : Netlist
      N = is.circuit

      module _ (c : Result (Unit {0}) Refusal) (checked : answer_of c ≡ checks (store_rules l0.total ws)) where
        on-words : longest_call file ws e gates from ≡ (answer_of c then checks (length_rule N ∷ []) then value (longest_from N (store_runs ws e) (begin_gates gates) (begin_from gates from)))
        unfolding longest_call
        on-words =
            let found : Answer Untested = value (longest_from N (store_runs ws e) (begin_gates gates) (begin_from gates from)) in
            let words : answer_of c ≡ checks (store_rules (path_total N) ws) = checked ∙ ap (λ n. checks (store_rules n ws)) is.total_is in
            let first : longest_call file ws e gates from ≡ (checks (store_rules (path_total N) ws ++ (length_rule N ∷ [])) then found) =
            rw (eq-eqb (length ws) store_words_count l, is.tables.legal) refl in
            first
            ∙ ap (λ (x : Answer (Unit {0})). x then found) (checks-both (store_rules (path_total N) ws) (length_rule N ∷ []))
            ∙ ap (λ (x : Answer (Unit {0})). x then checks (length_rule N ∷ []) then found) (sym words)

        pub call-store : (w : Refusal) → c ≡ Err w → longest_of (Err w) ≡ longest_call file ws e gates from
        call-store w k =
            sym (on-words ∙ ap (λ (x : Result (Unit {0}) Refusal). answer_of x then checks (length_rule N ∷ []) then value (longest_from N (store_runs ws e) (begin_gates gates) (begin_from gates from))) k)

        module _ (k : c ≡ Ok tt) (wanted : Search) (ew : wanted ≡ begun gates from l0.total) where
          pub call-found : (r : Result (Option UntestedPath) Refusal) → ((M : Netlist) → read_netlist file ≡ value M → longest_of r ≡ longest_in M (store_runs ws e) wanted.gates wanted.from)
              → longest_of r ≡ longest_call file ws e gates from
          unfolding longest_in
          call-found r f =
              f N is.tables.legal
              ∙ ap (λ (x : Search). longest_in N (store_runs ws e) x.gates x.from) ew
              ∙ sym (on-words ∙ ap (λ (x : Result (Unit {0}) Refusal). answer_of x then checks (length_rule N ∷ []) then value (longest_from N (store_runs ws e) (begin_gates gates) (begin_from gates from))) k)

pub ruleset call-cases = (zeros-are, call-short, call-netlist, call-fit, call-store, call-prepared, call-found, rules)
