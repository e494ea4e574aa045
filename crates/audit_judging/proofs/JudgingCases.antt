-- The length of a test file, the place Report, and the end of an audit in pieces on a legal netlist, case by case as the code meets them.
use Rattle.model.proofs.Prelude.{ℕ, ◌+◌, ◌*◌, ◌^◌, ◌/◌, ◌%◌, ◌≡◌, ◌∙◌, ap, refl, sym, true, Bool, false, not, List, length, replicate, leb, eqb}
use Rattle.model.proofs.Prelude.{rules, ne_eqb, eq-eqb, not-true, not-false}
use Rattle.model.specs.Base.{Answer, refused, value, ◌into◌, checks, passes}
use Rattle.model.specs.Read.{vector_bytes_of}
use Rattle.model.specs.Refusals.{refusal_number_of}
use Rattle.model.specs.Store.{max_tests, runs_by_edge, store_rules}
use Rattle.model.specs.Report.{report_record, report_rules}
use Rattle.model.specs.declared.Refusal.{Refusal}
use Rattle.model.specs.declared.Refusal.TheVariants as why
use Rattle.store_words.specs.Sound.{SoundWords}
use Rattle.store_words.proofs.SoundLaws.{checked_sound}
use Rattle.audit_block.specs.RecordsTaken.{left_store}
use Rattle.audit_block.proofs.MemoryLaws.{emptied}
use Rattle.audit_judging.specs.FileJudging.{whole_length_of, Judged, end_by, store_checked, so_far, end_legal_of}
use Rattle.std.specs.Prelude.{Result, Ok, Err}
use Rattle.model.specs.Returned.{answer_of}

-- The file's length: a cut record decides, or the number of records does
module _ (total each : ℕ) where
  pub length_cut : (total % each ≡ 0 → ⊥) → eqb (total % each) 0 ≡ whole_length_of each total
  length_cut d = rw (ne_eqb (total % each) 0 d) refl

  pub length_whole : total % each ≡ 0 → leb (total / each) max_tests ≡ whole_length_of each total
  length_whole e = rw (eq-eqb (total % each) 0 e) refl

pub ruleset length-cases = (length_cut, length_whole, rules)

-- The place Report
module _ (tests paths : ℕ) (report ws : List ℕ) (sound : SoundWords (2 ^ 62) ws) (k : Result (Unit {0}) Refusal)
    (e : answer_of k ≡ checks (report_rules report (report_record tests paths (runs_by_edge ws)))) where
  pub judge_equal : k ≡ Ok tt → Judged (Ok tt) tests paths report ws ws
  unfolding left_store
  judge_equal f = let g = sym e ∙ ap answer_of f in record { answer = rw g refl; store = rw g refl }

  pub judge_refused : (w : Refusal) → k ≡ Err w → (ws' : List ℕ) → ws' ≡ replicate (length ws) 0
      → Judged (Err w) tests paths report ws ws'
  unfolding left_store
  judge_refused w f ws' z =
      let g = sym e ∙ ap answer_of f in
      record { answer = rw g refl; store = emptied ws' (length ws) z sound.few.long ∙ rw g refl }

pub ruleset judge-cases = (judge_equal, judge_refused, rules)

-- The end, from the length of a record, the number of paths and the state
module _ (each paths total : ℕ) (report : List ℕ) (x : Answer (List ℕ)) (b : Bool) (eb : b ≡ whole_length_of each total) where
  pub end-other-length : not b ≡ true → end_by each paths total report x ≡ refused 33
  unfolding end_by
  end-other-length n = rw (sym eb ∙ not-true b n) refl

  module _ (n : not b ≡ false) where
    pub end-refused-before : (k : ℕ) → x ≡ refused k → end_by each paths total report x ≡ refused k
    unfolding end_by
    end-refused-before k q = rw (sym eb ∙ not-false b n, q) refl

    module _ (ws : List ℕ) (q : x ≡ value ws) (k : Result (Unit {0}) Refusal) (e : answer_of k ≡ checks (report_rules report (report_record (total / each) paths (runs_by_edge ws)))) where
      pub end-other-report : (w : Refusal) → k ≡ Err w → end_by each paths total report x ≡ refused (refusal_number_of w)
      unfolding end_by
      end-other-report w f = rw (sym eb ∙ not-false b n, q) (rw (sym e ∙ ap answer_of f) refl)

      pub end-same-report : k ≡ Ok tt → end_by each paths total report x ≡ value ws
      unfolding end_by
      end-same-report f = rw (sym eb ∙ not-false b n, q) (rw (sym e ∙ ap answer_of f) refl)

-- The end on a legal netlist
module _ (inputs paths total first : ℕ) (report ws : List ℕ) (each : ℕ) (ee : each ≡ 2 + 2 * vector_bytes_of inputs)
    (b : Bool) (eb : b ≡ whole_length_of each total) where
  abbrev state : Answer (List ℕ)
  state = so_far first ws into λ left. store_checked paths left

  ends : (a : Answer (List ℕ)) → end_by each paths total report state ≡ a → passes a ≡ passes (end_legal_of (2 + 2 * vector_bytes_of inputs) paths total first report ws)
  unfolding end_legal_of
  ends a q = ap (λ (x : Answer (List ℕ)). passes x) (sym q ∙ ap (λ (k : ℕ). end_by k paths total report state) ee)

  pub legal-length : not b ≡ true → (m : ℕ) → m ≡ refusal_number_of why.TestFileLength
      → refused m ≡ passes (end_legal_of (2 + 2 * vector_bytes_of inputs) paths total first report ws)
  legal-length n m q = ap (λ (i : ℕ). refused i) q ∙ ends (refused 33) (end-other-length each paths total report state b eb n)

  module _ (n : not b ≡ false) where
    pub legal-first : (first ≡ 0 → ⊥) → refused first ≡ passes (end_legal_of (2 + 2 * vector_bytes_of inputs) paths total first report ws)
    unfolding so_far
    legal-first d = ends (refused first) (end-refused-before each paths total report state b eb n first (rw (ne_eqb first 0 d, so_far) refl))

    module _ (z : first ≡ 0) (k : Result (Unit {0}) Refusal) (ek : answer_of k ≡ checks (store_rules paths ws)) where
      all-taken : so_far first ws ≡ value ws
      unfolding so_far
      all-taken = rw (eq-eqb first 0 z, so_far) refl

      pub legal-store : (w : Refusal) → k ≡ Err w → (m : ℕ) → m ≡ refusal_number_of w
          → refused m ≡ passes (end_legal_of (2 + 2 * vector_bytes_of inputs) paths total first report ws)
      legal-store w e m q =
          let x : state ≡ refused m = rw (all-taken, sym ek ∙ ap answer_of e) (ap (λ (i : ℕ). refused i) (sym q)) in
          ends (refused m) (end-refused-before each paths total report state b eb n m x)

      module _ (s : k ≡ Ok tt) (c : Result (Unit {0}) Refusal) (ec : answer_of c ≡ checks (report_rules report (report_record (total / each) paths (runs_by_edge ws)))) where
        sound-state : state ≡ value ws
        sound-state = rw (all-taken, sym ek ∙ ap answer_of s) refl

        pub legal-report : (w : Refusal) → c ≡ Err w → (m : ℕ) → m ≡ refusal_number_of w
            → refused m ≡ passes (end_legal_of (2 + 2 * vector_bytes_of inputs) paths total first report ws)
        legal-report w e m q =
            ap (λ (i : ℕ). refused i) q ∙ ends (refused (refusal_number_of w)) (end-other-report each paths total report state b eb n ws sound-state c ec w e)

        pub legal-accepted : c ≡ Ok tt → value tt ≡ passes (end_legal_of (2 + 2 * vector_bytes_of inputs) paths total first report ws)
        legal-accepted e = ends (value ws) (end-same-report each paths total report state b eb n ws sound-state c ec e)

pub ruleset legal-cases = (legal-length, legal-first, legal-store, legal-report, legal-accepted, checked_sound, rules)
