-- The public end of an audit in pieces, case by case as the code meets them.
use Rattle.model.proofs.Prelude.{ℕ, ◌≤◌, ◌+◌, ◌*◌, ◌^◌, ◌/◌, ◌≡◌, ◌∙◌, ap, refl, sym, ap₂, true, Bool, false, List, [], ◌∷◌, length, replicate, eqb}
use Rattle.model.proofs.Prelude.{arith, rules, ne_eqb, eq-eqb}
use Rattle.model.specs.Base.{Answer, refused, value, ◌into◌, ◌then◌, checks, passes}
use Rattle.model.specs.Netlist.{Netlist, path_total}
use Rattle.model.specs.Read.{vector_bytes_of, record_length, read_netlist}
use Rattle.model.specs.Refusals.{refusal_number_of}
use Rattle.model.specs.Store.{store_words_count, runs_by_edge, store_rules}
use Rattle.model.specs.Calls.{store_rule, survey_call}
use Rattle.model.specs.Report.{report_record, report_rules}
use Rattle.model.specs.declared.Refusal.{Refusal}
use Rattle.model.specs.declared.Refusal.TheVariants as why
use Rattle.model.proofs.AnswerLaws.{not_refused, value_inj, steps, then-second}
use Rattle.model.proofs.ReadLaws.{limits}
use Rattle.netlist.specs.Answers.{surveyed_of}
use Rattle.netlist.specs.declared.NetlistSurvey.{NetlistSurvey}
use Rattle.netlist.proofs.LoadLaws.{paths-fit, legal-survey, refused-survey}
use Rattle.store_coverage.proofs.TestCallLaws.{refused-by, taken-by}
use Rattle.audit_block.specs.RecordsTaken.{left_store}
use Rattle.audit_judging.specs.FileJudging.{whole_length_of, end_by, store_checked, ended_of, so_far, end_legal_of}
use Rattle.audit_block.proofs.MemoryLaws.{emptied}
use Rattle.audit_pieces.specs.Calls.{end_stage, end_call, end_answer, end_store, EndTrue}
use Rattle.std.specs.Prelude.{Result, Ok, Err}

-- The end with a store of the right length
module _ (netlist : List ℕ) (total first : ℕ) (report ws : List ℕ) (r : Result NetlistSurvey Refusal) (t : surveyed_of r ≡ survey_call netlist) where
  pub stage-netlist : (w : Refusal) → r ≡ Err w → (m : ℕ) → m ≡ refusal_number_of w → refused m ≡ passes (end_stage netlist total first report ws)
  unfolding end_stage
  stage-netlist w e m q = rw (refused-survey netlist r t w e) (ap (λ (i : ℕ). refused i) q)

  module _ (d : NetlistSurvey) (e : r ≡ Ok d) where
    pub stage-inputs : d.inputs ≤ 64
    stage-inputs =
        let s = legal-survey netlist r t d e in
        omega (arith, s.inputs_are, (limits netlist s.netlist s.is_read).few_inputs)

    pub stage-paths : d.total ≤ 2 ^ 62
    stage-paths = paths-fit netlist r t d e

    pub stage-legal : (a : Result (Unit {0}) ℕ)
        → ended_of a ≡ passes (end_legal_of (2 + 2 * vector_bytes_of d.inputs) d.total total first report ws)
        → ended_of a ≡ passes (end_stage netlist total first report ws)
    unfolding end_stage
    stage-legal a q =
        let s = legal-survey netlist r t d e in
        q
        ∙ ap₂ (λ i p. passes (end_legal_of (2 + 2 * vector_bytes_of i) p total first report ws)) s.inputs_are s.total_is
        ∙ rw s.is_read refl

pub ruleset Stage-cases = (stage-netlist, stage-inputs, stage-paths, stage-legal, rules)

-- an accepted report leaves the store as it is
end-left : (each paths total : ℕ) (report : List ℕ) (x : Answer (List ℕ)) (left : List ℕ) → end_by each paths total report x ≡ value left → x ≡ value left
unfolding end_by
end-left each paths total report x left q =
    let whole = checks ((33, whole_length_of each total) ∷ []) in
    let rules : List ℕ → Answer (Unit {0}) = λ l. checks (report_rules report (report_record (total / each) paths (runs_by_edge l))) in
    let s = steps (whole then x) (λ l. rules l then value l) q in
    then-second whole x s.first ∙ ap (λ (l : List ℕ). value l) (value_inj (then-second (rules s.got) (value s.got) s.second))

held-left : (b : Bool) (first : ℕ) (ws left : List ℕ) → elim b [ true ↦ value ws | false ↦ refused first ] ≡ value left → left ≡ ws
held-left true first ws left q = sym (value_inj q)
held-left false first ws left q = absurd (not_refused q)

state-left : (paths first : ℕ) (ws left : List ℕ) → (so_far first ws into λ l. store_checked paths l) ≡ value left → left ≡ ws
unfolding so_far
state-left paths first ws left q =
    let s = steps (so_far first ws) (λ l. store_checked paths l) q in
    sym (value_inj (then-second (checks (store_rules paths s.got)) (value s.got) s.second)) ∙ held-left (eqb first 0) first ws s.got s.first

-- The end
module _ (netlist : List ℕ) (total first : ℕ) (report ws : List ℕ) where
  pub end-words : (length ws ≡ store_words_count → ⊥) → (m : ℕ) → m ≡ refusal_number_of why.StoreLength → EndTrue (Err m) netlist total first report ws ws
  unfolding end_answer end_store end_call
  end-words d m q = record {
    answer = ap (λ (i : ℕ). refused i) q ∙ rw (ne_eqb (length ws) store_words_count d) refl;
    store = rw (ne_eqb (length ws) store_words_count d) refl;
  }

  module _ (l : length ws ≡ store_words_count) (a : Result (Unit {0}) ℕ) (q : ended_of a ≡ passes (end_stage netlist total first report ws)) where
    long : checks (store_rule ws ∷ []) ≡ value tt
    long = rw (eq-eqb (length ws) store_words_count l) refl

    pub end-no : (n : ℕ) → a ≡ Err n → (ws' : List ℕ) → ws' ≡ replicate (length ws) 0 → EndTrue (Err n) netlist total first report ws ws'
    unfolding end_answer end_store end_call left_store
    end-no n e ws' z =
        let x : end_stage netlist total first report ws ≡ refused n = refused-by (end_stage netlist total first report ws) n (sym (ap ended_of e) ∙ q) in
        record { answer = rw (long, x) refl; store = emptied ws' (length ws) z l ∙ rw (long, x) refl }

    yes_by : (left : List ℕ) → end_stage netlist total first report ws ≡ value left → left ≡ ws → EndTrue (Ok tt) netlist total first report ws ws
    unfolding end_answer end_store end_call left_store
    yes_by left x w = record { answer = rw (long, x) refl; store = sym w ∙ rw (long, x) refl }

    pub end-yes : a ≡ Ok tt → EndTrue (Ok tt) netlist total first report ws ws
    unfolding end_stage end_legal_of
    end-yes e =
        let x = taken-by (end_stage netlist total first report ws) (sym (ap ended_of e) ∙ q) in
        let s = steps (read_netlist netlist) (λ N. end_legal_of (record_length N) (path_total N) total first report ws) x.is in
        let N : Netlist = s.got in
        let y = end-left (record_length N) (path_total N) total report (so_far first ws into λ l. store_checked (path_total N) l) x.got s.second in
        yes_by x.got x.is (state-left (path_total N) first ws x.got y)

pub ruleset call-end-cases = (end-words, end-no, end-yes, rules)
