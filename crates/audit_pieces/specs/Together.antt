-- The steps together are the audit of the whole file, however it is cut into pieces of whole records; and so are the public calls.
use Rattle.std.specs.Prelude.{◌≡◌, ◌↔◌, List, [], ◌∷◌, map, ℕ, zero, suc, ◌+◌, ◌≤◌, length}
use Rattle.model.specs.Base.{Answer, value, ◌into◌}
use Rattle.model.specs.Netlist.{Netlist}
use Rattle.model.specs.Read.{read_netlist, class_of}
use Rattle.model.specs.Refusals.{refusal_number_of}
use Rattle.model.specs.Store.{empty_store}
use Rattle.model.specs.Calls.{work_words_count, before_test}
use Rattle.model.specs.Report.{file_records, audit_call, audit_answer, audit_store}
use Rattle.model.specs.Demand3.{Acceptable}
use Rattle.model.specs.declared.Refusal.{Refusal}
use Rattle.netlist.specs.declared.inner.Loaded.{Loaded}
use Rattle.audit.specs.Answers.{AuditTrue}
use Rattle.audit_block.specs.RecordsTaken.{taken_of}
use Rattle.audit_block.specs.declared.inner.TakenRecords.{TakenRecords}
use Rattle.audit_pieces.specs.declared.PieceAnswer.{PieceAnswer}
use Rattle.audit_pieces.specs.declared.PieceAnswer.TheVariants as piece
use Rattle.audit_piece_steps.specs.declared.inner.Begun.{Begun}
use Rattle.audit_piece_steps.specs.Steps.{BeginTrue, PieceTaken, Ended, end_of}
use Rattle.audit_records.specs.FileRecords.{Ready}
use Rattle.audit_piece_steps.specs.JoinedPieces.{joined, WholeButLast, with_pieces}
use Rattle.audit_pieces.specs.Calls.{BegunTrue, PieceTrue, EndTrue}
use Rattle.audit_judging.specs.FileJudging.{ended_of}
use Rattle.std.specs.Prelude.{Result, Ok, Err}

-- beginning, pieces and end
unfoldable pub pieces_call : List ℕ → ℕ → List (List ℕ) → List ℕ → List ℕ → List ℕ → Answer (List ℕ)
pieces_call netlist class pieces report ws work =
    before_test netlist class ws work into λ N. end_of N (length (joined pieces)) report (with_pieces N (class_of class) pieces (value empty_store))

-- ---- The steps, whose tables are made once

-- A piece that was taken: its bytes, the working memory that it was handed, what it answered, and the store and that memory as it left them
pub record MadePiece : Type 0 where
  pub bytes : List ℕ
  pub work : List ℕ
  pub answer : TakenRecords
  pub left : List ℕ
  pub work_left : List ℕ

abbrev pub bytes_of : List MadePiece → List (List ℕ)
bytes_of ms = map (λ m. m.bytes) ms

-- before the first piece no record is taken
abbrev pub no_records : TakenRecords
no_records = record { taken = 0; answer = (Ok tt) }

-- The promise of each piece of a list: the first gets answer and store as given, each later one as the piece before left them; each has whatever
-- working memory it was handed
abbrev pub Promised : List ℕ → Loaded → ℕ → TakenRecords → List ℕ → List MadePiece → Type 0
Promised netlist loaded class before ws [] = Unit {0}
Promised netlist loaded class before ws (m ∷ ms) =
    PieceTaken m.answer netlist loaded class before m.bytes ws m.left m.work m.work_left
    × Promised netlist loaded class m.answer m.left ms

-- answer and store after the last
abbrev pub last_answer : TakenRecords → List MadePiece → TakenRecords
last_answer before [] = before
last_answer before (m ∷ ms) = last_answer m.answer ms

abbrev pub last_left : List ℕ → List MadePiece → List ℕ
last_left ws [] = ws
last_left ws (m ∷ ms) = last_left m.left ms

-- The tables of a beginning: the other steps can be made with them
pub record ReadyTables (b : Begun) (netlist ws work : List ℕ) : Type 0 where
  pub loaded : Loaded
  pub tables_are : b.tables ≡ Ok loaded
  pub ready : Ready netlist loaded ws work

-- Steps that were made: a beginning that is ready, the pieces `ms` in order, all in one class, and an end that returned `r`, each as promised
pub record StepsMade (netlist : List ℕ) (class : ℕ) (ms : List MadePiece) (report ws ws' work : List ℕ) (r : Result (Unit {0}) Refusal) : Type 0 where
  pub circuit : Netlist
  pub legal : read_netlist netlist ≡ value circuit
  pub begun : Begun
  pub loaded : Loaded
  pub emptied : List ℕ
  pub begins : BeginTrue begun netlist class ws emptied work
  pub is_ready : begun.answer ≡ Ok tt
  pub has_tables : begun.tables ≡ Ok loaded
  pub takes : Promised netlist loaded class no_records emptied ms
  pub whole : WholeButLast circuit (bytes_of ms)
  pub ends : Ended r netlist (last_answer no_records ms).answer (length (joined (bytes_of ms))) report (last_left emptied ms) ws'

-- ---- The public calls

-- A piece that was handed over, or not handed over any more: its bytes, the working memory that it was handed, what the call answered, and the
-- store and that memory afterwards
pub record MadeCall : Type 0 where
  pub bytes : List ℕ
  pub work : List ℕ
  pub answer : PieceAnswer
  pub left : List ℕ
  pub work_left : List ℕ

abbrev pub call_bytes : List MadeCall → List (List ℕ)
call_bytes ms = map (λ m. m.bytes) ms

-- what a caller keeps of an answer: the number of the refusal, 0 if there is none; and the number of records taken
abbrev pub first_of : PieceAnswer → ℕ
first_of (piece.Taken k) = 0
first_of (piece.RecordRefused k w) = refusal_number_of w
first_of (piece.Refused w) = refusal_number_of w

abbrev pub taken_in_of : PieceAnswer → ℕ
taken_in_of (piece.Taken k) = k
taken_in_of (piece.RecordRefused k w) = k
taken_in_of (piece.Refused w) = 0

-- The promise of each call of a list, the first refusal so far being `first`, each with working memory long enough, whatever is in it; once there
-- is a refusal, no call is made and the store stays
abbrev pub HandedOver : List ℕ → ℕ → ℕ → List ℕ → List MadeCall → Type 0
HandedOver netlist class first ws [] = Unit {0}
HandedOver netlist class zero ws (m ∷ ms) =
    (work_words_count ≤ length m.work)
    × PieceTrue m.answer netlist class m.bytes ws m.left m.work m.work_left
    × HandedOver netlist class (first_of m.answer) m.left ms
HandedOver netlist class (suc n) ws (m ∷ ms) = (m.left ≡ ws) × HandedOver netlist class (suc n) m.left ms

-- first refusal, number of records taken and store after the last
abbrev pub last_first : ℕ → List MadeCall → ℕ
last_first first [] = first
last_first zero (m ∷ ms) = last_first (first_of m.answer) ms
last_first (suc n) (m ∷ ms) = last_first (suc n) ms

abbrev pub last_taken_of : ℕ → ℕ → List MadeCall → ℕ
last_taken_of first taken [] = taken
last_taken_of zero taken (m ∷ ms) = last_taken_of (first_of m.answer) (taken + taken_in_of m.answer) ms
last_taken_of (suc n) taken (m ∷ ms) = last_taken_of (suc n) taken ms

abbrev pub last_store : List ℕ → List MadeCall → List ℕ
last_store ws [] = ws
last_store ws (m ∷ ms) = last_store m.left ms

-- no call of a list was refused before its records: not for the lent memory, not for the netlist, not for the class, not for the store
abbrev pub OnlyByRecords : ℕ → List MadeCall → Type 0
OnlyByRecords first [] = Unit {0}
OnlyByRecords zero (m ∷ ms) = ((w : Refusal) → m.answer ≡ piece.Refused w → ⊥) × OnlyByRecords (first_of m.answer) ms
OnlyByRecords (suc n) (m ∷ ms) = OnlyByRecords (suc n) ms

-- Calls that were made: a beginning that is ready, and the pieces `ms` in order, all in one class, as promised
pub record PiecesMade (netlist : List ℕ) (class : ℕ) (ms : List MadeCall) (ws work : List ℕ) : Type 0 where
  pub circuit : Netlist
  pub legal : read_netlist netlist ≡ value circuit
  pub emptied : List ℕ
  pub begins : BegunTrue (Ok tt) netlist class ws emptied work
  pub takes : HandedOver netlist class 0 emptied ms
  pub whole : WholeButLast circuit (call_bytes ms)

-- and the end, which returned `r`
pub record CallsMade (netlist : List ℕ) (class : ℕ) (ms : List MadeCall) (report ws ws' work : List ℕ) (r : Result (Unit {0}) ℕ) : Type 0 where
  pub pieces : PiecesMade netlist class ms ws work
  pub ends : EndTrue r netlist (length (joined (call_bytes ms))) (last_first 0 ms) report (last_store pieces.emptied ms) ws'

-- answer and store of the audit of a whole file, of an answer that is a number
pub record WholeAudit (r : Result (Unit {0}) ℕ) (netlist : List ℕ) (class : ℕ) (test_file report ws ws' work : List ℕ) : Type 0 where
  pub answer : ended_of r ≡ audit_answer netlist class test_file report ws work
  pub store : ws' ≡ audit_store netlist class test_file report ws work

-- ---- What is claimed

pub record PiecesTrue : Type 0 where
  -- by the definitions
  pub calls : (netlist : List ℕ) (N : Netlist) → read_netlist netlist ≡ value N
      → (class : ℕ) (pieces : List (List ℕ)) → WholeButLast N pieces
      → (report ws work : List ℕ) → pieces_call netlist class pieces report ws work ≡ audit_call netlist class (joined pieces) report ws work
  -- of the values that the steps return, whatever working memory each piece was handed: the promise of the audit of the whole file, its store
  -- included. The memory is that of the beginning, which changes none; what a piece changes of its own is in its promise
  pub made : (netlist : List ℕ) (class : ℕ) (ms : List MadePiece) (report ws ws' work : List ℕ) (r : Result (Unit {0}) Refusal) → StepsMade netlist class ms report ws ws' work r
      → AuditTrue r netlist class (joined (bytes_of ms)) report ws ws' work work
  -- so they accept exactly the true report of the whole file
  pub accepts : (netlist : List ℕ) (class : ℕ) (ms : List MadePiece) (report ws ws' work : List ℕ) (r : Result (Unit {0}) Refusal) → StepsMade netlist class ms report ws ws' work r
      → (r ≡ Ok tt) ↔ Acceptable netlist class (joined (bytes_of ms)) report ws work
  -- a refusal at the beginning is the audit's, whatever the file and the report; else the other steps can be made
  pub refused_at_once : (netlist : List ℕ) (class : ℕ) (test_file report ws ws₀ work : List ℕ) (b : Begun) → BeginTrue b netlist class ws ws₀ work
      → (w : Refusal) → b.answer ≡ Err w → AuditTrue (Err w) netlist class test_file report ws ws₀ work work
  pub ready_then : (netlist : List ℕ) (class : ℕ) (ws ws₀ work : List ℕ) (b : Begun) → BeginTrue b netlist class ws ws₀ work → b.answer ≡ Ok tt
      → ReadyTables b netlist ws₀ work
  -- the same of the values that the public calls return, whatever is in the working memory that each piece is handed
  pub calls_made : (netlist : List ℕ) (class : ℕ) (ms : List MadeCall) (report ws ws' work : List ℕ) (r : Result (Unit {0}) ℕ) → CallsMade netlist class ms report ws ws' work r
      → WholeAudit r netlist class (joined (call_bytes ms)) report ws ws' work
  pub calls_accept : (netlist : List ℕ) (class : ℕ) (ms : List MadeCall) (report ws ws' work : List ℕ) (r : Result (Unit {0}) ℕ) → CallsMade netlist class ms report ws ws' work r
      → (r ≡ Ok tt) ↔ Acceptable netlist class (joined (call_bytes ms)) report ws work
  pub call_refused_at_once : (netlist : List ℕ) (class : ℕ) (test_file report ws ws₀ work : List ℕ) (w : Refusal)
      → BegunTrue (Err w) netlist class ws ws₀ work
      → WholeAudit (Err (refusal_number_of w)) netlist class test_file report ws ws₀ work
  -- a piece call that gets the store as the call before left it is never refused for its store
  pub never_for_store : (netlist : List ℕ) (class : ℕ) (ms : List MadeCall) (ws work : List ℕ) → PiecesMade netlist class ms ws work → OnlyByRecords 0 ms
  -- the numbers of records taken are those of the whole file: the first refused record stands just after them
  pub places : (netlist : List ℕ) (class : ℕ) (ms : List MadePiece) (report ws ws' work : List ℕ) (r : Result (Unit {0}) Refusal) → (s : StepsMade netlist class ms report ws ws' work r)
      → (last_answer no_records ms).taken ≡ taken_of s.circuit (class_of class) (file_records s.circuit (joined (bytes_of ms))) empty_store
  pub call_places : (netlist : List ℕ) (class : ℕ) (ms : List MadeCall) (ws work : List ℕ) → (s : PiecesMade netlist class ms ws work)
      → last_taken_of 0 0 ms ≡ taken_of s.circuit (class_of class) (file_records s.circuit (joined (call_bytes ms))) empty_store
