-- The public calls of an audit in pieces, beginning and piece, case by case as the code meets them.
use Rattle.model.proofs.Prelude.{ℕ, ◌≤◌, ◌<◌, ◌^◌, ◌≡◌, ◌∙◌, ap, refl, sym, true, Bool, false, not, List, length, replicate, arith, rules, not-true}
use Rattle.model.proofs.Prelude.{not-false}
use Rattle.model.specs.Base.{Answer, refused, value, checks, passes}
use Rattle.model.specs.Netlist.{Netlist, path_total}
use Rattle.model.specs.Read.{within, read_netlist, class_of}
use Rattle.model.specs.Refusals.{refusal_number_of}
use Rattle.model.specs.Store.{store_words_count, store_rules}
use Rattle.model.specs.Calls.{work_words_count, before_test}
use Rattle.model.specs.Report.{file_records, test_all}
use Rattle.model.specs.declared.Refusal.{Refusal}
use Rattle.model.specs.declared.Refusal.TheVariants as why
use Rattle.model.proofs.AnswerLaws.{not_refused, value_inj}
use Rattle.model.proofs.ReadLaws.{limits}
use Rattle.netlist.specs.Answers.{LoadedTrue}
use Rattle.netlist.specs.declared.inner.Loaded.{Loaded}
use Rattle.netlist.proofs.LoadLaws.{loaded_legal, loaded_refused}
use Rattle.audit_block.specs.RecordsTaken.{file_of, left_store, taken_of}
use Rattle.audit_block.specs.declared.inner.TakenRecords.{TakenRecords}
use Rattle.audit_block.proofs.MemoryLaws.{emptied}
use Rattle.audit_pieces.specs.declared.PieceAnswer.{PieceAnswer}
use Rattle.audit_pieces.specs.declared.PieceAnswer.TheVariants as piece
use Rattle.audit_piece_steps.specs.Steps.{lent_rules, PieceTaken, with_piece, taken_with, piece_store}
use Rattle.audit_records.specs.FileRecords.{Ready}
use Rattle.audit_pieces.specs.Calls.{RecordsSaid, piece_of, records_said, piece_answer, piece_call, piece_left, PieceWork, PieceTrue, PieceReady, PieceStaged}
use Rattle.audit_judging.specs.FileJudging.{store_checked}
use Rattle.audit_piece_steps.proofs.StepCases.{lent-words, lent-short, lent-passed}
use Rattle.std.specs.Prelude.{Result, Ok, Err}
use Rattle.model.specs.Returned.{answer_of}

-- A piece on a legal netlist
module _ (netlist : List ℕ) (loaded : Loaded) (class : ℕ) (bytes ws work : List ℕ) (ready : PieceReady netlist loaded ws work) where
  pub on-paths : loaded.total ≤ 2 ^ 62
  on-paths = omega (arith, ready.total_is, (limits netlist ready.circuit ready.tables.legal).total_fits)

  total_of : (N : Netlist) → read_netlist netlist ≡ value N → loaded.total ≡ path_total N
  total_of N q = ready.total_is ∙ ap path_total (value_inj (sym ready.tables.legal ∙ q))

  module _ (k : Result (Unit {0}) Refusal) (ek : answer_of k ≡ checks (store_rules loaded.total ws)) where
    checked_is : (N : Netlist) → read_netlist netlist ≡ value N → checks (store_rules (path_total N) ws) ≡ answer_of k
    checked_is N q = ap (λ (p : ℕ). checks (store_rules p ws)) (sym (total_of N q)) ∙ sym ek

    pub on-refused : (w : Refusal) → k ≡ Err w → (ws' : List ℕ) → ws' ≡ replicate (length ws) 0
        → PieceStaged (piece.Refused w) netlist class bytes ws ws' work work
    unfolding left_store
    on-refused w e ws' z =
        let x : (N : Netlist) → read_netlist netlist ≡ value N → checks (store_rules (path_total N) ws) ≡ refused (refusal_number_of w) =
        λ N q. checked_is N q ∙ ap answer_of e in
        record {
          answer = λ N q. rw (x N q) refl;
          store = λ N q. emptied ws' (length ws) z ready.store_length ∙ rw (x N q) refl;
          same_length_of = refl;
          past_work = refl;
          not_reached = λ N q n f. refl;
        }

    module _ (s : k ≡ Ok tt) where
      sound-is : (N : Netlist) → read_netlist netlist ≡ value N → checks (store_rules (path_total N) ws) ≡ value tt
      sound-is N q = checked_is N q ∙ ap answer_of s

      pub on-ready : Ready netlist loaded ws work
      on-ready = record {
        circuit = ready.circuit;
        tables = ready.tables;
        total_is = ready.total_is;
        memory = record { store_length = ready.store_length; sound = sound-is ready.circuit ready.tables.legal; work_length = ready.work_length };
      }

      module _ (r : TakenRecords) (ws' work' : List ℕ) (t : PieceTaken r netlist loaded class (record { taken = 0; answer = (Ok tt) }) bytes ws ws' work work') where
        said-is : (N : Netlist) → read_netlist netlist ≡ value N → record { taken = r.taken; said = passes (file_of r.answer ws') } ≡ records_said N (class_of class) bytes ws
        unfolding records_said with_piece taken_with
        said-is N q =
            let a : r.taken ≡ taken_of N (class_of class) (file_records N bytes) ws = omega (arith, t.taken N q) in
            let b : passes (file_of r.answer ws') ≡ passes (test_all N (class_of class) (file_records N bytes) ws) = ap (λ (x : Answer (List ℕ)). passes x) (t.answer N q) in
            λ i. record { taken = a i; said = b i }

        staged : (p : PieceAnswer) → piece_of p ≡ value (record { taken = r.taken; said = passes (file_of r.answer ws') })
            → PieceStaged p netlist class bytes ws ws' work work'
        unfolding piece_store
        staged p e = record {
          answer = λ N q. rw (sound-is N q) (e ∙ ap (λ (x : RecordsSaid). value x) (said-is N q));
          store = λ N q. rw (sound-is N q) (t.store N q);
          same_length_of = t.same_length_of;
          past_work = t.past_work;
          not_reached = λ N q n f.
              let x : store_checked (path_total N) ws ≡ value ws = rw (sound-is N q) refl in
              absurd (not_refused (sym f ∙ x));
        }

        pub on-taken : r.answer ≡ Ok tt → PieceStaged (piece.Taken r.taken) netlist class bytes ws ws' work work'
        on-taken e = staged (piece.Taken r.taken) (rw e refl)

        pub on-record : (w : Refusal) → r.answer ≡ Err w → PieceStaged (piece.RecordRefused r.taken w) netlist class bytes ws ws' work work'
        on-record w e = staged (piece.RecordRefused r.taken w) (rw e refl)

pub ruleset on-cases = (on-paths, on-refused, on-ready, on-taken, on-record, rules)

-- A piece
module _ (netlist : List ℕ) (class : ℕ) (bytes ws work : List ℕ) where
  untouched : PieceWork netlist class ws work work
  untouched = record { same_length_of = refl; past_work = refl; not_reached = λ n e. refl }

  at-lent : (w : Refusal) → lent_rules ws work ≡ refused (refusal_number_of w) → PieceTrue (piece.Refused w) netlist class bytes ws ws work work
  unfolding piece_answer piece_left
  at-lent w e = record { answer = rw e refl; store = rw e refl; memory = untouched }

  pub piece-words : (length ws ≡ store_words_count → ⊥) → PieceTrue (piece.Refused why.StoreLength) netlist class bytes ws ws work work
  piece-words d = at-lent why.StoreLength (lent-words ws work d)

  module _ (l : length ws ≡ store_words_count) where
    pub piece-short : length work < work_words_count → PieceTrue (piece.Refused why.WorkLength) netlist class bytes ws ws work work
    piece-short h = at-lent why.WorkLength (lent-short ws work l h)

    module _ (h : work_words_count ≤ length work) (r : Result Loaded Refusal) (t : LoadedTrue r netlist) where
      pub piece-netlist : (w : Refusal) → r ≡ Err w → (ws' : List ℕ) → ws' ≡ replicate (length ws) 0
          → PieceTrue (piece.Refused w) netlist class bytes ws ws' work work
      unfolding piece_answer piece_left piece_call left_store
      piece-netlist w e ws' z =
          let p = lent-passed ws work l h in
          let q = loaded_refused r netlist t w e in
          record {
            answer = rw (p, q) refl;
            store = emptied ws' (length ws) z l ∙ rw (p, q) refl;
            memory = untouched;
          }

      module _ (loaded : Loaded) (e : r ≡ Ok loaded) where
        pub piece-legal : PieceReady netlist loaded ws work
        piece-legal =
            let d = loaded_legal r netlist t loaded e in
            record { circuit = d.circuit; tables = d.tables; total_is = d.total_is; store_length = l; work_length = h }

        pub piece-class : (k : Bool) → k ≡ within 1 2 class → not k ≡ true → (ws' : List ℕ) → ws' ≡ replicate (length ws) 0
            → PieceTrue (piece.Refused why.UnknownClass) netlist class bytes ws ws' work work
        unfolding piece_answer piece_left piece_call left_store
        piece-class k ek n ws' z =
            let p = lent-passed ws work l h in
            let q = (loaded_legal r netlist t loaded e).tables.legal in
            let u : within 1 2 class ≡ false = sym ek ∙ not-true k n in
            record {
              answer = rw (p, q) (rw u refl);
              store = emptied ws' (length ws) z l ∙ rw (p, q) (rw u refl);
              memory = untouched;
            }

        pub piece-done : (a : PieceAnswer) (ws' work' : List ℕ) (k : Bool) → k ≡ within 1 2 class → not k ≡ false
            → PieceStaged a netlist class bytes ws ws' work work' → PieceTrue a netlist class bytes ws ws' work work'
        unfolding piece_answer piece_left piece_call
        piece-done a ws' work' k ek n s =
            let d = loaded_legal r netlist t loaded e in
            let p = lent-passed ws work l h in
            let u : within 1 2 class ≡ true = sym ek ∙ not-false k n in
            let before : before_test netlist class ws work ≡ value d.circuit = rw (p, d.tables.legal) (rw u refl) in
            record {
              answer = s.answer d.circuit d.tables.legal ∙ rw (p, d.tables.legal) (rw u refl);
              store = s.store d.circuit d.tables.legal ∙ rw (p, d.tables.legal) (rw u refl);
              memory = record {
                same_length_of = s.same_length_of;
                past_work = s.past_work;
                not_reached = λ n q. s.not_reached d.circuit d.tables.legal n (rw before at q);
              };
            }

pub ruleset call-piece-cases = (piece-words, piece-short, piece-netlist, piece-class, piece-legal, piece-done, rules)
