-- The steps of an audit in pieces, case by case as the code meets them.
use Rattle.model.proofs.Prelude.{ℕ, ◌≤◌, ◌<◌, ◌+◌, ◌*◌, ◌/◌, ◌≡◌, ◌∙◌, ap, refl, sym, subst, ap₂, true, Bool, false, not, List, length, replicate}
use Rattle.model.proofs.Prelude.{arith, rules, le-leb, lt-leb, ne_eqb, eq-eqb, not-true, not-false}
use Rattle.model.specs.Base.{Answer, refused, value, passes}
use Rattle.model.specs.Netlist.{Netlist}
use Rattle.model.specs.Read.{within, vector_bytes_of, read_netlist, class_of}
use Rattle.model.specs.Refusals.{refusal_number_of}
use Rattle.model.specs.Store.{store_words_count}
use Rattle.model.specs.Calls.{work_words_count}
use Rattle.model.specs.Report.{file_records}
use Rattle.model.specs.declared.Refusal.{Refusal}
use Rattle.model.specs.declared.Refusal.TheVariants as why
use Rattle.netlist.specs.Answers.{LoadedTrue}
use Rattle.netlist.specs.declared.inner.Loaded.{Loaded}
use Rattle.netlist.proofs.LoadLaws.{loaded_legal, loaded_refused}
use Rattle.store_coverage.specs.Stage.{MemoryReady}
use Rattle.audit_block.specs.RecordsTaken.{file_of, left_store}
use Rattle.audit_records.specs.FileRecords.{FileTaken, Ready}
use Rattle.audit_records.proofs.ReadyLaws.{ready-inputs, ready-records, ready-sound}
use Rattle.audit_judging.specs.FileJudging.{whole_length_of, reported, Judged, end_by}
use Rattle.audit_block.specs.declared.inner.TakenRecords.{TakenRecords}
use Rattle.audit_block.proofs.MemoryLaws.{of_netlist_lem, emptied, left-memory}
use Rattle.audit_judging.proofs.JudgingCases.{end-other-length, end-refused-before}
use Rattle.audit_piece_steps.specs.Steps.{BeginTrue, lent_rules, begin_answer, begin_store, PieceTaken, Ended, with_piece, taken_with, piece_store, end_of}
use Rattle.std.specs.Prelude.{Result, Ok, Err}

-- The lent memory
module _ (ws work : List ℕ) where
  pub lent-words : (length ws ≡ store_words_count → ⊥) → lent_rules ws work ≡ refused 1
  lent-words d = rw (ne_eqb (length ws) store_words_count d) refl

  module _ (l : length ws ≡ store_words_count) where
    pub lent-short : length work < work_words_count → lent_rules ws work ≡ refused 2
    lent-short h = rw (eq-eqb (length ws) store_words_count l, lt-leb work_words_count (length work) h) refl

    pub lent-passed : work_words_count ≤ length work → lent_rules ws work ≡ value tt
    lent-passed h = rw (eq-eqb (length ws) store_words_count l, le-leb work_words_count (length work) h) refl

-- The beginning
module _ (netlist : List ℕ) (class : ℕ) (ws work : List ℕ) (r : Result Loaded Refusal) (t : LoadedTrue r netlist) where
  pub begin_words : (length ws ≡ store_words_count → ⊥)
      → BeginTrue (record { answer = Err why.StoreLength; tables = r }) netlist class ws ws work
  unfolding begin_answer begin_store
  begin_words d = record { answer = rw (lent-words ws work d) refl; store = rw (lent-words ws work d) refl; tables = t }

  module _ (l : length ws ≡ store_words_count) where
    pub begin_short : length work < work_words_count
        → BeginTrue (record { answer = Err why.WorkLength; tables = r }) netlist class ws ws work
    unfolding begin_answer begin_store
    begin_short h = record { answer = rw (lent-short ws work l h) refl; store = rw (lent-short ws work l h) refl; tables = t }

    module _ (h : work_words_count ≤ length work) (ws' : List ℕ) (z : ws' ≡ replicate (length ws) 0) where
      pub begin_netlist : (w : Refusal) → r ≡ Err w → BeginTrue (record { answer = Err w; tables = r }) netlist class ws ws' work
      unfolding begin_answer begin_store
      begin_netlist w e = record {
        answer = rw (lent-passed ws work l h, loaded_refused r netlist t w e) refl;
        store = emptied ws' (length ws) z l ∙ rw (lent-passed ws work l h) refl;
        tables = t;
      }

      module _ (loaded : Loaded) (e : r ≡ Ok loaded) (k : Bool) (ek : k ≡ within 1 2 class) where
        pub begin_class : not k ≡ true
            → BeginTrue (record { answer = Err why.UnknownClass; tables = r }) netlist class ws ws' work
        unfolding begin_answer begin_store
        begin_class n = record {
          answer = rw (lent-passed ws work l h, (loaded_legal r netlist t loaded e).tables.legal) (rw (sym ek ∙ not-true k n) refl);
          store = emptied ws' (length ws) z l ∙ rw (lent-passed ws work l h) refl;
          tables = t;
        }

        pub begin_ready : not k ≡ false → BeginTrue (record { answer = Ok tt; tables = r }) netlist class ws ws' work
        unfolding begin_answer begin_store
        begin_ready n = record {
          answer = rw (lent-passed ws work l h, (loaded_legal r netlist t loaded e).tables.legal) (rw (sym ek ∙ not-false k n) refl);
          store = emptied ws' (length ws) z l ∙ rw (lent-passed ws work l h) refl;
          tables = t;
        }

pub ruleset begin-cases = (begin_words, begin_short, begin_netlist, begin_class, begin_ready, rules)

module _ (netlist : List ℕ) (loaded : Loaded) (ws work : List ℕ) (ready : Ready netlist loaded ws work) where
  -- A piece
  module _ (class : ℕ) (before : TakenRecords) (piece : List ℕ) where
    pub piece-refused : (w : Refusal) → before.answer ≡ Err w
        → PieceTaken (record { taken = before.taken; answer = Err w }) netlist loaded class before piece ws ws work work
    unfolding with_piece taken_with piece_store
    piece-refused w e = record {
      answer = λ N q. rw e refl;
      taken = λ N q. rw e refl;
      store = λ N q. rw e refl;
      few = omega arith;
      ready = ready;
      same_length_of = refl;
      past_work = refl;
    }

    module _ (e : before.answer ≡ Ok tt) (more : TakenRecords) (ws' work' : List ℕ)
        (t : FileTaken more netlist loaded.positions loaded.counts loaded.shape class piece ws ws' work work') where
      abbrev C : Netlist
      C = ready.circuit

      pub piece-taken : PieceTaken (record { taken = before.taken + more.taken; answer = more.answer }) netlist loaded class before piece ws ws' work work'
      unfolding with_piece taken_with piece_store
      piece-taken =
          let x = t.of_circuit C ready.tables in
          record {
            answer = of_netlist_lem netlist ready.tables.legal (λ N. file_of more.answer ws' ≡ with_piece N (class_of class) piece (file_of before.answer ws)) (rw e x.answer);
            taken = of_netlist_lem netlist ready.tables.legal (λ N. before.taken + more.taken ≡ taken_with N (class_of class) piece (file_of before.answer ws) before.taken)
                (rw e (ap (λ (k : ℕ). before.taken + k) x.taken));
            store = of_netlist_lem netlist ready.tables.legal (λ N. ws' ≡ piece_store N (class_of class) before.answer piece ws) (rw e x.store);
            few = omega (arith, t.few);
            ready = record {
              circuit = C;
              tables = ready.tables;
              total_is = ready.total_is;
              memory = subst (λ (s : List ℕ). MemoryReady C s work') (sym x.store)
                  (left-memory C (class_of class) ws work work' ready.memory t.same_length_of (file_records C piece));
            };
            same_length_of = t.same_length_of;
            past_work = t.past_work;
          }

pub ruleset piece-cases = (ready-records, piece-refused, piece-taken, rules)

-- The end
module _ (netlist : List ℕ) (loaded : Loaded) (ws work : List ℕ) (ready : Ready netlist loaded ws work) (taken : Result (Unit {0}) Refusal) (total : ℕ) (report : List ℕ)
    (each : ℕ) (ee : each ≡ 2 + 2 * vector_bytes_of loaded.shape.inputs) where
  -- in the numbers that the code has
  ended_is : (N : Netlist) → read_netlist netlist ≡ value N → end_of N total report (file_of taken ws) ≡ end_by each loaded.total total report (file_of taken ws)
  ended_is = of_netlist_lem netlist ready.tables.legal (λ N. end_of N total report (file_of taken ws) ≡ end_by each loaded.total total report (file_of taken ws))
      (ap₂ (λ k p. end_by k p total report (file_of taken ws)) (sym (ee ∙ ap (λ (i : ℕ). 2 + 2 * vector_bytes_of i) ready.tables.inputs_are)) (sym ready.total_is))

  -- a refusal: the store is then all zeros
  end_refused : (w : Refusal) (ws' : List ℕ) → end_by each loaded.total total report (file_of taken ws) ≡ refused (refusal_number_of w)
      → ws' ≡ replicate (length ws) 0 → Ended (Err w) netlist taken total report ws ws'
  unfolding left_store
  end_refused w ws' e z = record {
    answer = λ N q. sym (ap (λ (a : Answer (List ℕ)). passes a) (ended_is N q ∙ e));
    store = λ N q. emptied ws' (length ws) z ready.memory.store_length ∙ sym (ap left_store (ended_is N q ∙ e));
  }

  module _ (b : Bool) (eb : b ≡ whole_length_of each total) where
    pub end-length : not b ≡ true → (ws' : List ℕ) → ws' ≡ replicate (length ws) 0 → Ended (Err why.TestFileLength) netlist taken total report ws ws'
    end-length n ws' z = end_refused why.TestFileLength ws' (end-other-length each loaded.total total report (file_of taken ws) b eb n) z

    module _ (n : not b ≡ false) where
      pub end-record : (w : Refusal) → taken ≡ Err w → (ws' : List ℕ) → ws' ≡ replicate (length ws) 0
          → Ended (Err w) netlist taken total report ws ws'
      end-record w e ws' z =
          let q : file_of taken ws ≡ refused (refusal_number_of w) = ap (λ (f : Result (Unit {0}) Refusal). file_of f ws) e in
          end_refused w ws' (end-refused-before each loaded.total total report (file_of taken ws) b eb n (refusal_number_of w) q) z

      pub end-judged : taken ≡ Ok tt → (r : Result (Unit {0}) Refusal) (ws' : List ℕ) → Judged r (total / each) loaded.total report ws ws'
          → Ended r netlist taken total report ws ws'
      unfolding end_by
      end-judged e r ws' j =
          let x : end_by each loaded.total total report (file_of taken ws) ≡ reported (total / each) loaded.total report ws =
          rw (sym eb ∙ not-false b n, e) refl in
          record {
            answer = λ N q. j.answer ∙ sym (ap (λ (a : Answer (List ℕ)). passes a) (ended_is N q ∙ x));
            store = λ N q. j.store ∙ sym (ap left_store (ended_is N q ∙ x));
          }

pub ruleset end-cases = (ready-inputs, ready-sound, end-length, end-record, end-judged, rules)
