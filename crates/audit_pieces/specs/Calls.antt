-- The public calls of an audit in pieces, each as a function of what it is handed: its answer, and the lent memory afterwards.
-- Names: class is the number of a class, the same for the whole file; piece is the bytes of a piece, total the number of bytes of the whole file, first the number of the first refusal or 0.
use Rattle.std.specs.Prelude.{◌≡◌, List, [], ◌∷◌, ℕ, ◌≤◌, length, drop}
use Rattle.model.specs.Base.{Answer, refused, value, ◌into◌, ◌then◌, checks, passes, after}
use Rattle.model.specs.Netlist.{Netlist, path_total}
use Rattle.model.specs.Detect.{Class}
use Rattle.model.specs.Read.{read_netlist, class_of, record_length}
use Rattle.model.specs.Refusals.{refusal_number_of}
use Rattle.model.specs.Store.{store_words_count}
use Rattle.model.specs.Calls.{work_words_count, store_rule, before_test}
use Rattle.model.specs.Report.{file_records, test_all}
use Rattle.netlist.specs.declared.inner.Loaded.{Loaded}
use Rattle.netlist.specs.Tables.{CircuitTables}
use Rattle.audit_block.specs.RecordsTaken.{left_store, taken_of}
use Rattle.audit_pieces.specs.declared.PieceAnswer.{PieceAnswer}
use Rattle.audit_pieces.specs.declared.PieceAnswer.TheVariants as piece
use Rattle.audit_judging.specs.FileJudging.{store_checked, ended_of, end_legal_of}
use Rattle.audit_piece_steps.specs.Steps.{lent_rules, begin_answer, begin_store}
use Rattle.std.specs.Prelude.{Result}
use Rattle.model.specs.declared.Refusal.{Refusal}
use Rattle.model.specs.Returned.{answer_of}

-- The beginning: its answer, and the store afterwards
pub record BegunTrue (r : Result (Unit {0}) Refusal) (netlist : List ℕ) (class : ℕ) (ws ws' work : List ℕ) : Type 0 where
  pub answer : answer_of r ≡ begin_answer netlist class ws work
  pub store : ws' ≡ begin_store ws work

-- what the records of a piece answer: how many were taken before the first that was refused, all if none was, and the number of that refusal
pub record RecordsSaid : Type 0 where
  pub taken : ℕ
  pub said : Answer (Unit {0})

-- a piece: the number of a refusal before its records, or what these answer
abbrev pub piece_of : PieceAnswer → Answer RecordsSaid
piece_of (piece.Taken k) = value (record { taken = k; said = value tt })
piece_of (piece.RecordRefused k w) = value (record { taken = k; said = refused (refusal_number_of w) })
piece_of (piece.Refused w) = refused (refusal_number_of w)

-- the records of a piece, in order, on a netlist, in a class and from a store: what they answer
unfoldable pub records_said : Netlist → Class → List ℕ → List ℕ → RecordsSaid
records_said N c bytes ws = record { taken = taken_of N c (file_records N bytes) ws; said = passes (test_all N c (file_records N bytes) ws) }

-- A piece: 1, 2, the netlist, 83, 40 to 42, then the records. Its answer, and the store that the test calls leave
unfoldable pub piece_answer : List ℕ → ℕ → List ℕ → List ℕ → List ℕ → Answer RecordsSaid
piece_answer netlist class bytes ws work =
    before_test netlist class ws work into λ N. store_checked (path_total N) ws into λ sound. value (records_said N (class_of class) bytes sound)

unfoldable pub piece_call : List ℕ → ℕ → List ℕ → List ℕ → List ℕ → Answer (List ℕ)
piece_call netlist class bytes ws work =
    before_test netlist class ws work into λ N. store_checked (path_total N) ws into λ sound. test_all N (class_of class) (file_records N bytes) sound

-- the store afterwards: refused with 1 or 2 it is as found, with any other number all zeros
unfoldable pub piece_left : List ℕ → ℕ → List ℕ → List ℕ → List ℕ → List ℕ
piece_left netlist class bytes ws work = after (lent_rules ws work) ws (λ u. left_store (piece_call netlist class bytes ws work))

-- working memory afterwards: it may hold anything in its first 8,192 words if the records were reached, else it is as before
pub record PieceWork (netlist : List ℕ) (class : ℕ) (ws found left : List ℕ) : Type 0 where
  pub same_length_of : length left ≡ length found
  pub past_work : drop work_words_count left ≡ drop work_words_count found
  pub not_reached : (n : ℕ) → (before_test netlist class ws found into λ N. store_checked (path_total N) ws) ≡ refused n → left ≡ found

pub record PieceTrue (r : PieceAnswer) (netlist : List ℕ) (class : ℕ) (bytes ws ws' work work' : List ℕ) : Type 0 where
  pub answer : piece_of r ≡ piece_answer netlist class bytes ws work
  pub store : ws' ≡ piece_left netlist class bytes ws work
  pub memory : PieceWork netlist class ws work work'

-- once lent memory, netlist and class are taken: what is handed on, and what then holds
pub record PieceReady (netlist : List ℕ) (loaded : Loaded) (ws work : List ℕ) : Type 0 where
  pub circuit : Netlist
  pub tables : CircuitTables circuit netlist loaded.positions loaded.counts loaded.shape
  pub total_is : loaded.total ≡ path_total circuit
  pub store_length : length ws ≡ store_words_count
  pub work_length : work_words_count ≤ length work

pub record PieceStaged (r : PieceAnswer) (netlist : List ℕ) (class : ℕ) (bytes ws ws' work work' : List ℕ) : Type 0 where
  pub answer : (N : Netlist) → read_netlist netlist ≡ value N
      → piece_of r ≡ (store_checked (path_total N) ws into λ sound. value (records_said N (class_of class) bytes sound))
  pub store : (N : Netlist) → read_netlist netlist ≡ value N
      → ws' ≡ left_store (store_checked (path_total N) ws into λ sound. test_all N (class_of class) (file_records N bytes) sound)
  pub same_length_of : length work' ≡ length work
  pub past_work : drop work_words_count work' ≡ drop work_words_count work
  pub not_reached : (N : Netlist) → read_netlist netlist ≡ value N → (n : ℕ) → store_checked (path_total N) ws ≡ refused n → work' ≡ work

-- 1, the netlist, then the rest of the end on it
unfoldable pub end_stage : List ℕ → ℕ → ℕ → List ℕ → List ℕ → Answer (List ℕ)
end_stage netlist total first report ws = read_netlist netlist into λ N. end_legal_of (record_length N) (path_total N) total first report ws

unfoldable pub end_call : List ℕ → ℕ → ℕ → List ℕ → List ℕ → Answer (List ℕ)
end_call netlist total first report ws = checks (store_rule ws ∷ []) then end_stage netlist total first report ws

unfoldable pub end_answer : List ℕ → ℕ → ℕ → List ℕ → List ℕ → Answer (Unit {0})
end_answer netlist total first report ws = passes (end_call netlist total first report ws)

-- the store afterwards: refused for its own length it is as found, for anything else all zeros, also where the answer is a first refusal of 1 or 2
unfoldable pub end_store : List ℕ → ℕ → ℕ → List ℕ → List ℕ → List ℕ
end_store netlist total first report ws = after (checks (store_rule ws ∷ [])) ws (λ u. left_store (end_call netlist total first report ws))

pub record EndTrue (r : Result (Unit {0}) ℕ) (netlist : List ℕ) (total first : ℕ) (report ws ws' : List ℕ) : Type 0 where
  pub answer : ended_of r ≡ end_answer netlist total first report ws
  pub store : ws' ≡ end_store netlist total first report ws
