-- The audit, case by case as the code meets them: on a legal netlist from an empty store, then the call.
use Rattle.model.proofs.Prelude.{ℕ, ◌≤◌, ◌<◌, ◌+◌, ◌*◌, ◌^◌, ◌/◌, ◌≡◌, ◌∙◌, ap, refl, sym, subst, true, Bool, false, not, List, [], ◌∷◌, length, drop}
use Rattle.model.proofs.Prelude.{replicate, rules, le-leb, lt-leb, ne_eqb, eq-eqb, not-true, not-false}
use Rattle.model.specs.Base.{Answer, refused, value, ◌into◌, checks, passes}
use Rattle.model.specs.Netlist.{Netlist}
use Rattle.model.specs.Read.{within, class_of, vector_bytes_of, record_length}
use Rattle.model.specs.Refusals.{refusal_number_of}
use Rattle.model.specs.Store.{store_words_count, empty_store}
use Rattle.model.specs.Calls.{work_words_count, store_rule, work_rule, before_test, WorkAfter}
use Rattle.model.specs.Report.{file_records, test_all, audit_call, audit_answer, audit_store}
use Rattle.model.specs.declared.Refusal.{Refusal}
use Rattle.model.specs.declared.Refusal.TheVariants as why
use Rattle.model.proofs.AnswerLaws.{not_refused}
use Rattle.model.proofs.ReportLaws.{length-records}
use Rattle.model.proofs.RefusalLaws.{audit_found, audit_emptied, audit_kept}
use Rattle.netlist.specs.Answers.{LoadedTrue}
use Rattle.netlist.specs.declared.inner.Loaded.{Loaded}
use Rattle.netlist.proofs.LoadLaws.{loaded_legal, loaded_refused}
use Rattle.store_words.specs.Sound.{SoundWords}
use Rattle.store_coverage.specs.Stage.{MemoryReady}
use Rattle.audit_block.specs.RecordsTaken.{left_store}
use Rattle.audit_block.specs.declared.inner.TakenRecords.{TakenRecords}
use Rattle.audit_block.proofs.MemoryLaws.{of_netlist_lem, emptied, empty-memory, all-memory, memory-sound}
use Rattle.audit_records.specs.FileRecords.{FileTaken, Ready}
use Rattle.audit_records.proofs.ReadyLaws.{ready-inputs, ready-records}
use Rattle.audit_judging.specs.FileJudging.{whole_length_of, reported, Judged}
use Rattle.audit.specs.Answers.{AuditTrue}
use Rattle.audit.specs.TestFile.{audit_file, FileAudited}
use Rattle.std.specs.Prelude.{Result, Ok, Err}
use Rattle.model.specs.Returned.{answer_of}

module _ (netlist : List ℕ) (loaded : Loaded) (ws work : List ℕ) (ready : Ready netlist loaded ws work) (empty : ws ≡ empty_store) where
  abbrev C : Netlist
  C = ready.circuit

  module _ (class : ℕ) (test_file report : List ℕ) where
    abbrev call : Netlist → Answer (List ℕ)
    call N = audit_file N (class_of class) test_file report

    -- from the audit of the netlist at hand
    audited : (r : Result (Unit {0}) Refusal) (ws' work' : List ℕ) → answer_of r ≡ passes (call C) → ws' ≡ left_store (call C)
        → length work' ≡ length work → drop work_words_count work' ≡ drop work_words_count work → FileAudited r netlist class test_file report ws' work work'
    audited r ws' work' a s l p = record {
      answer = of_netlist_lem netlist ready.tables.legal (λ N. answer_of r ≡ passes (call N)) a;
      store = of_netlist_lem netlist ready.tables.legal (λ N. ws' ≡ left_store (call N)) s;
      same_length_of = l;
      past_work = p;
    }

    module _ (each : ℕ) (ee : each ≡ 2 + 2 * vector_bytes_of loaded.shape.inputs) (b : Bool) (eb : b ≡ whole_length_of each (length test_file)) where
      each-is : each ≡ record_length C
      each-is = ee ∙ ap (λ (i : ℕ). 2 + 2 * vector_bytes_of i) ready.tables.inputs_are

      whole_is : whole_length_of (record_length C) (length test_file) ≡ b
      whole_is = ap (λ (i : ℕ). whole_length_of i (length test_file)) (sym each-is) ∙ sym eb

      pub file-cut : not b ≡ true → FileAudited (Err why.TestFileLength) netlist class test_file report ws work work
      unfolding audit_file left_store
      file-cut n =
          let e = whole_is ∙ not-true b n in
          audited (Err why.TestFileLength) ws work (rw e refl) (empty ∙ rw e refl) refl refl

      module _ (n : not b ≡ false) (r : TakenRecords) (ws' work' : List ℕ)
          (t : FileTaken r netlist loaded.positions loaded.counts loaded.shape class test_file ws ws' work work') where
        abbrev taken : Answer (List ℕ)
        taken = test_all C (class_of class) (file_records C test_file) ws

        -- in the numbers that the code has
        call-is : call C ≡ (taken into λ left. reported (length test_file / each) loaded.total report left)
        unfolding audit_file
        call-is =
            let count : length (file_records C test_file) ≡ length test_file / each =
            length-records (record_length C) (length test_file / record_length C) test_file ∙ ap (λ (i : ℕ). length test_file / i) (sym each-is) in
            rw (whole_is ∙ not-false b n, count, ← ready.total_is, ← empty) refl

        pub file-record : (w : Refusal) → r.answer ≡ Err w → FileAudited (Err w) netlist class test_file report ws' work work'
        unfolding left_store
        file-record w q =
            let x = t.of_circuit C ready.tables in
            let e : taken ≡ refused (refusal_number_of w) = sym (rw q at x.answer) in
            let f : call C ≡ refused (refusal_number_of w) = call-is ∙ rw e refl in
            audited (Err w) ws' work' (rw f refl) (x.store ∙ rw (e, f) refl) t.same_length_of t.past_work

        module _ (q : r.answer ≡ Ok tt) where
          left : taken ≡ value ws'
          left = sym (rw q at (t.of_circuit C ready.tables).answer)

          pub file-sound : SoundWords (2 ^ 62) ws'
          file-sound =
              memory-sound netlist C ready.tables.legal ws' work'
              (all-memory C (class_of class) ws work work' ready.memory t.same_length_of (file_records C test_file) ws' left)

          pub file-judged : (a : Result (Unit {0}) Refusal) (ws'' : List ℕ) → Judged a (length test_file / each) loaded.total report ws' ws''
              → FileAudited a netlist class test_file report ws'' work work'
          file-judged a ws'' j =
              let e : call C ≡ reported (length test_file / each) loaded.total report ws' = call-is ∙ rw left refl in
              audited a ws'' work' (j.answer ∙ rw e refl) (j.store ∙ rw e refl) t.same_length_of t.past_work

pub ruleset audit-file-cases = (ready-inputs, ready-records, file-cut, file-record, file-sound, file-judged, rules)

-- the store that an audit leaves once its lent memory has passed
pub audit_left : (netlist : List ℕ) (class : ℕ) (test_file report ws work : List ℕ) → checks (store_rule ws ∷ work_rule work ∷ []) ≡ value tt
    → (x : Answer (List ℕ)) → audit_call netlist class test_file report ws work ≡ x → left_store x ≡ audit_store netlist class test_file report ws work
unfolding left_store
audit_left netlist class test_file report ws work l (refused n) q = sym (audit_emptied netlist class test_file report ws work n l q)
audit_left netlist class test_file report ws work l (value w) q = sym (audit_kept netlist class test_file report ws work w q)

-- working memory that the call did not touch
kept : (netlist : List ℕ) (class : ℕ) (ws work : List ℕ) → WorkAfter netlist class ws work work
kept netlist class ws work = record { same_length_of = refl; past_work = refl; not_reached = λ n e. refl }

module _ (netlist : List ℕ) (class : ℕ) (test_file report ws work : List ℕ) where
  abbrev lent : Answer (Unit {0})
  lent = checks (store_rule ws ∷ work_rule work ∷ [])

  at-lent : (w : Refusal) → lent ≡ refused (refusal_number_of w) → AuditTrue (Err w) netlist class test_file report ws ws work work
  unfolding audit_answer audit_call
  at-lent w e = record {
    answer = rw e refl;
    store = sym (audit_found netlist class test_file report ws work (refusal_number_of w) e);
    work = kept netlist class ws work;
  }

  pub audit_words : (length ws ≡ store_words_count → ⊥) → AuditTrue (Err why.StoreLength) netlist class test_file report ws ws work work
  audit_words d = at-lent why.StoreLength (rw (ne_eqb (length ws) store_words_count d) refl)

  module _ (l : length ws ≡ store_words_count) where
    pub audit_short : length work < work_words_count → AuditTrue (Err why.WorkLength) netlist class test_file report ws ws work work
    audit_short h = at-lent why.WorkLength (rw (eq-eqb (length ws) store_words_count l, lt-leb work_words_count (length work) h) refl)

    module _ (h : work_words_count ≤ length work) where
      passed : lent ≡ value tt
      passed = rw (eq-eqb (length ws) store_words_count l, le-leb work_words_count (length work) h) refl

      module _ (ws' : List ℕ) (z : ws' ≡ replicate (length ws) 0) (found : Result Loaded Refusal) (t : LoadedTrue found netlist) where
        pub audit_netlist : (w : Refusal) → found ≡ Err w → AuditTrue (Err w) netlist class test_file report ws ws' work work
        unfolding audit_answer audit_call
        audit_netlist w e =
            let a : audit_call netlist class test_file report ws work ≡ refused (refusal_number_of w) = rw (passed, loaded_refused found netlist t w e) refl in
            record {
              answer = sym (ap (λ (x : Answer (List ℕ)). passes x) a);
              store = emptied ws' (length ws) z l ∙ sym (audit_emptied netlist class test_file report ws work (refusal_number_of w) passed a);
              work = kept netlist class ws work;
            }

        pub audit_class : (loaded : Loaded) → found ≡ Ok loaded → (k : Bool) → k ≡ within 1 2 class → not k ≡ true
            → AuditTrue (Err why.UnknownClass) netlist class test_file report ws ws' work work
        unfolding audit_answer audit_call
        audit_class loaded e k ek hk =
            let d = loaded_legal found netlist t loaded e in
            let q : within 1 2 class ≡ false = sym ek ∙ not-true k hk in
            let a : audit_call netlist class test_file report ws work ≡ refused 83 = rw (passed, d.tables.legal) (rw q refl) in
            record {
              answer = sym (ap (λ (x : Answer (List ℕ)). passes x) a);
              store = emptied ws' (length ws) z l ∙ sym (audit_emptied netlist class test_file report ws work 83 passed a);
              work = kept netlist class ws work;
            }

        module _ (loaded : Loaded) (e : found ≡ Ok loaded) where
          pub audit_empty : ws' ≡ empty_store
          audit_empty = emptied ws' (length ws) z l

          pub audit_ready : Ready netlist loaded ws' work
          audit_ready =
              let d = loaded_legal found netlist t loaded e in
              record {
                circuit = d.circuit;
                tables = d.tables;
                total_is = d.total_is;
                memory = subst (λ (x : List ℕ). MemoryReady d.circuit x work) (sym audit_empty) (empty-memory d.circuit work h);
              }

          pub audit_done : (r : Result (Unit {0}) Refusal) (ws'' work'' : List ℕ) (k : Bool) → k ≡ within 1 2 class → not k ≡ false
              → FileAudited r netlist class test_file report ws'' work work'' → AuditTrue r netlist class test_file report ws ws'' work work''
          unfolding audit_answer audit_call audit_file
          audit_done r ws'' work'' k ek hk f =
              let d = loaded_legal found netlist t loaded e in
              let before : before_test netlist class ws work ≡ value d.circuit = rw (passed, d.tables.legal) (rw (sym ek ∙ not-false k hk) refl) in
              let a : audit_call netlist class test_file report ws work ≡ audit_file d.circuit (class_of class) test_file report = rw before refl in
              record {
                answer = f.answer d.circuit d.tables.legal ∙ sym (ap (λ (x : Answer (List ℕ)). passes x) a);
                store = f.store d.circuit d.tables.legal ∙ audit_left netlist class test_file report ws work passed (audit_file d.circuit (class_of class) test_file report) a;
                work = record {
                  same_length_of = f.same_length_of;
                  past_work = f.past_work;
                  not_reached = λ n q. absurd (not_refused (sym q ∙ before));
                };
              }

pub ruleset audit-cases = (audit_words, audit_short, audit_netlist, audit_class, audit_empty, audit_ready, audit_done, rules)
