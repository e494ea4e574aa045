-- The walk over a file that is read piece by piece: its start, one piece more, its ends.
use Rattle.model.proofs.Prelude.{ℕ, ◌≤◌, ◌<◌, ◌+◌, ◌*◌, ◌%◌, ◌≡◌, ◌∙◌, ap, refl, sym, ap₂, Bool, List, [], ◌++◌, length, drop, take, length-take-le}
use Rattle.model.proofs.Prelude.{zero-add, arith, rules}
use Rattle.model.specs.Base.{Answer, value}
use Rattle.model.specs.Netlist.{Netlist}
use Rattle.model.specs.Detect.{Class}
use Rattle.model.specs.Read.{vector_bytes_of, read_netlist, class_of}
use Rattle.model.specs.Store.{empty_store}
use Rattle.model.specs.Calls.{work_words_count}
use Rattle.model.specs.Report.{file_records}
use Rattle.netlist.specs.declared.inner.Loaded.{Loaded}
use Rattle.audit_block.specs.RecordsTaken.{file_of, left_store, taken_of}
use Rattle.audit_block.specs.declared.inner.TakenRecords.{TakenRecords}
use Rattle.audit_records.specs.FileRecords.{Ready}
use Rattle.audit_piece_steps.specs.Steps.{PieceTaken, with_piece, taken_with, piece_store}
use Rattle.audit_pieces.specs.Together.{no_records}
use Rattle.audit_records.proofs.ReadyLaws.{ready-inputs}
use Rattle.audit_piece_steps.proofs.JoinedPieceLaws.{no_bytes, piece_then}
use Rattle.audit_pieces.proofs.TakenLaws.{taken_none, taken-both}
use Rattle.testfile_walk.specs.Walked.{most_bytes, records_taken, Walked}
use Rattle.testfile_reading.proofs.ReadPieceLaws.{FileSoFar, file-start, file-more, file-over, file-next, file-last}
use Rattle.std.specs.Prelude.{Result, Ok, Err}
use Rattle.model.specs.declared.Refusal.{Refusal}

-- the store after a piece, by the state before it
store-with : (N : Netlist) (c : Class) (a : Result (Unit {0}) Refusal) (piece ws : List ℕ) → ws ≡ left_store (file_of a ws)
    → piece_store N c a piece ws ≡ left_store (with_piece N c piece (file_of a ws))
unfolding piece_store with_piece left_store
store-with N c (Ok tt) piece ws e = refl
store-with N c (Err w) piece ws e = e

-- the number of records taken from an empty store, and none before
taken-from : (N : Netlist) (c : Class) (test_file : List ℕ) → taken_with N c test_file (value empty_store) 0 ≡ taken_of N c (file_records N test_file) empty_store
unfolding taken_with
taken-from N c test_file = zero-add (taken_of N c (file_records N test_file) empty_store)

records-are : (N : Netlist) (c : Class) (test_file : List ℕ) → with_piece N c test_file (value empty_store) ≡ records_taken N c test_file
unfolding with_piece records_taken
records-are N c test_file = refl

module _ (netlist : List ℕ) (loaded : Loaded) (class : ℕ) (full most : ℕ) (work₀ : List ℕ) where
  -- What was read so far is a whole number of records, and its records were taken
  pub record Reading (records : TakenRecords) (bytes : ℕ) (space ws work : List ℕ) : Type 0 where
    pub test_file : List ℕ
    pub read : FileSoFar netlist full most test_file bytes space
    pub state : (N : Netlist) → read_netlist netlist ≡ value N → file_of records.answer ws ≡ with_piece N (class_of class) test_file (value empty_store)
    pub store : (N : Netlist) → read_netlist netlist ≡ value N → ws ≡ left_store (with_piece N (class_of class) test_file (value empty_store))
    pub taken : (N : Netlist) → read_netlist netlist ≡ value N → records.taken ≡ taken_with N (class_of class) test_file (value empty_store) 0
    pub few : records.taken ≤ bytes
    pub ready : Ready netlist loaded ws work
    pub same_length_of : length work ≡ length work₀
    pub past_work : drop work_words_count work ≡ drop work_words_count work₀

  pub reading_start : (space ws : List ℕ) → Ready netlist loaded ws work₀ → ws ≡ empty_store → length space ≡ most → Reading no_records 0 space ws work₀
  unfolding left_store
  reading_start space ws r e l = record {
    test_file = [];
    read = file-start netlist full most space l;
    state = λ N q. ap (λ (x : List ℕ). value x) e ∙ sym (no_bytes N (class_of class) (value empty_store));
    store = λ N q. e ∙ sym (ap left_store (no_bytes N (class_of class) (value empty_store)));
    taken = λ N q. taken_none N (class_of class) (value empty_store) 0;
    few = omega arith;
    ready = r;
    same_length_of = refl;
    past_work = refl;
  }

  module _ (record_bytes : ℕ) (eb : record_bytes ≡ 2 + 2 * vector_bytes_of loaded.shape.inputs) (near : most < full + record_bytes)
      (records : TakenRecords) (bytes : ℕ) (space ws work : List ℕ) (g : Reading records bytes space ws work) where
    abbrev f : List ℕ
    f = g.test_file

    pub reading_over : most_bytes < bytes → (b : Bool) → Walked records_taken (record { bytes = bytes; records = records; whole = b }) netlist loaded class space ws work₀ work
    reading_over h b = record {
      test_file = f;
      bytes_are = g.read.bytes_are;
      in_space = file-over netlist full most g.ready.tables.legal g.ready.tables.inputs_are eb near g.read (omega (arith, h));
      answer = λ N e. g.state N e ∙ records-are N (class_of class) f;
      store = λ N e. g.store N e ∙ ap left_store (records-are N (class_of class) f);
      taken = λ N e. g.taken N e ∙ taken-from N (class_of class) f;
      ready = g.ready;
      same_length_of = g.same_length_of;
      past_work = g.past_work;
    }

    module _ (n : ℕ) (space' : List ℕ) (cn : n ≤ length space') (cm : n ≤ full) (l : length space' ≡ length space) (r : TakenRecords) (ws' work' : List ℕ)
        (t : PieceTaken r netlist loaded class records (take n space') ws ws' work work') where
      abbrev piece : List ℕ
      piece = take n space'

      more-state : (N : Netlist) → read_netlist netlist ≡ value N → file_of r.answer ws' ≡ with_piece N (class_of class) (f ++ piece) (value empty_store)
      more-state N e = t.answer N e ∙ ap (with_piece N (class_of class) piece) (g.state N e) ∙ piece_then N (class_of class) f piece (value empty_store) (g.read.whole N e)

      more-store : (N : Netlist) → read_netlist netlist ≡ value N → ws' ≡ left_store (with_piece N (class_of class) (f ++ piece) (value empty_store))
      more-store N e =
          let before : ws ≡ left_store (file_of records.answer ws) = g.store N e ∙ sym (ap left_store (g.state N e)) in
          t.store N e ∙ store-with N (class_of class) records.answer piece ws before ∙ ap left_store (sym (t.answer N e) ∙ more-state N e)

      more-taken : (N : Netlist) → read_netlist netlist ≡ value N → r.taken ≡ taken_with N (class_of class) (f ++ piece) (value empty_store) 0
      more-taken N e =
          t.taken N e
          ∙ ap₂ (λ (x : Answer (List ℕ)) (k : ℕ). taken_with N (class_of class) piece x k) (g.state N e) (g.taken N e)
          ∙ taken-both N (class_of class) f piece (value empty_store) 0 (g.read.whole N e)

      pub reading_next : (least : ℕ) → full ≤ least → least ≤ n → full % record_bytes ≡ 0 → Reading r (bytes + n) space' ws' work'
      reading_next least fl ln w = record {
        test_file = f ++ piece;
        read = file-next netlist full most g.ready.tables.legal g.ready.tables.inputs_are eb near g.read n space' cn cm l (omega (arith, fl, ln)) w;
        state = more-state;
        store = more-store;
        taken = more-taken;
        few = omega (arith, t.few, g.few, length-take-le n space' cn);
        ready = t.ready;
        same_length_of = t.same_length_of ∙ g.same_length_of;
        past_work = t.past_work ∙ g.past_work;
      }

      -- the last piece
      pub reading_last : (b : Bool) → Walked records_taken (record { bytes = bytes + n; records = r; whole = b }) netlist loaded class space' ws' work₀ work'
      reading_last b = record {
        test_file = f ++ piece;
        bytes_are = file-more bytes n f space' g.read.bytes_are cn;
        in_space = file-last netlist full most g.ready.tables.legal g.ready.tables.inputs_are eb near g.read n space' cn cm l;
        answer = λ N e. more-state N e ∙ records-are N (class_of class) (f ++ piece);
        store = λ N e. more-store N e ∙ ap left_store (records-are N (class_of class) (f ++ piece));
        taken = λ N e. more-taken N e ∙ taken-from N (class_of class) (f ++ piece);
        ready = t.ready;
        same_length_of = t.same_length_of ∙ g.same_length_of;
        past_work = t.past_work ∙ g.past_work;
      }

module _ (netlist : List ℕ) (loaded : Loaded) (class : ℕ) (full most : ℕ) (work₀ : List ℕ) (records : TakenRecords) (bytes : ℕ) (space ws work : List ℕ)
    (g : Reading netlist loaded class full most work₀ records bytes space ws work) where
  pub reading_is : Ready netlist loaded ws work
  reading_is = g.ready

  pub reading_long : full ≤ most → full ≤ length space
  reading_long h = omega (arith, h, g.read.space_length)

pub ruleset walk-cases = (ready-inputs, reading_is, reading_long, reading_start, reading_next, reading_last, reading_over, rules)
