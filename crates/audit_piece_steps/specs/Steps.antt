-- The steps of an audit whose test file comes in pieces: each one's answer and the lent memory afterwards, by equations.
-- A state is what the test calls so far answer: the number of a refusal, or the store that they leave.
use Rattle.std.specs.Prelude.{◌≡◌, List, [], ◌∷◌, ℕ, ◌+◌, ◌≤◌, length, drop}
use Rattle.model.specs.Base.{Answer, refused, value, ◌into◌, checks, passes, after}
use Rattle.model.specs.Netlist.{Netlist, path_total}
use Rattle.model.specs.Detect.{Class}
use Rattle.model.specs.Read.{read_netlist, class_of, record_length}
use Rattle.model.specs.Store.{empty_store}
use Rattle.model.specs.Calls.{work_words_count, store_rule, work_rule, before_test}
use Rattle.model.specs.Report.{file_records, test_all}
use Rattle.netlist.specs.Answers.{LoadedTrue}
use Rattle.netlist.specs.declared.inner.Loaded.{Loaded}
use Rattle.audit_judging.specs.FileJudging.{end_by}
use Rattle.audit_block.specs.RecordsTaken.{file_of, left_store, taken_of}
use Rattle.audit_block.specs.declared.inner.TakenRecords.{TakenRecords}
use Rattle.audit_piece_steps.specs.declared.inner.Begun.{Begun}
use Rattle.audit_records.specs.FileRecords.{Ready}
use Rattle.std.specs.Prelude.{Result, Ok, Err}
use Rattle.model.specs.declared.Refusal.{Refusal}
use Rattle.model.specs.Returned.{answer_of}

-- lent memory: 1, then 2
abbrev pub lent_rules : List ℕ → List ℕ → Answer (Unit {0})
lent_rules ws work = checks (store_rule ws ∷ work_rule work ∷ [])

-- The beginning: the places before Test, with the number of the class for the whole file. The store is emptied unread; with 1 or 2 it is as found
unfoldable pub begin_answer : List ℕ → ℕ → List ℕ → List ℕ → Answer (Unit {0})
begin_answer netlist class ws work = passes (before_test netlist class ws work)

unfoldable pub begin_store : List ℕ → List ℕ → List ℕ
begin_store ws work = after (lent_rules ws work) ws (λ u. empty_store)

pub record BeginTrue (r : Begun) (netlist : List ℕ) (class : ℕ) (ws ws' work : List ℕ) : Type 0 where
  pub answer : answer_of r.answer ≡ begin_answer netlist class ws work
  pub store : ws' ≡ begin_store ws work
  pub tables : LoadedTrue r.tables netlist

-- the test calls with the records of one piece more
unfoldable pub with_piece : Netlist → Class → List ℕ → Answer (List ℕ) → Answer (List ℕ)
with_piece N c piece x = x into λ left. test_all N c (file_records N piece) left

-- the number of records taken then; after a refused record it stays as it is
unfoldable pub taken_with : Netlist → Class → List ℕ → Answer (List ℕ) → ℕ → ℕ
taken_with N c piece (refused n) taken = taken
taken_with N c piece (value left) taken = taken + taken_of N c (file_records N piece) left

-- the store afterwards; after a refused record it stays as it is
unfoldable pub piece_store : Netlist → Class → Result (Unit {0}) Refusal → List ℕ → List ℕ → List ℕ
piece_store N c (Ok tt) piece ws = left_store (test_all N c (file_records N piece) ws)
piece_store N c (Err w) piece ws = ws

-- A piece: the state, the number of records taken and the store afterwards, and what holds of the working memory; the next step can be made
pub record PieceTaken (r : TakenRecords) (netlist : List ℕ) (loaded : Loaded) (class : ℕ) (before : TakenRecords) (piece ws ws' work work' : List ℕ)
    : Type 0 where
  pub answer : (N : Netlist) → read_netlist netlist ≡ value N → file_of r.answer ws' ≡ with_piece N (class_of class) piece (file_of before.answer ws)
  pub taken : (N : Netlist) → read_netlist netlist ≡ value N → r.taken ≡ taken_with N (class_of class) piece (file_of before.answer ws) before.taken
  pub store : (N : Netlist) → read_netlist netlist ≡ value N → ws' ≡ piece_store N (class_of class) before.answer piece ws
  pub few : r.taken ≤ before.taken + length piece
  pub ready : Ready netlist loaded ws' work'
  pub same_length_of : length work' ≡ length work
  pub past_work : drop work_words_count work' ≡ drop work_words_count work

-- The end on a netlist
abbrev pub end_of : Netlist → ℕ → List ℕ → Answer (List ℕ) → Answer (List ℕ)
end_of N total report x = end_by (record_length N) (path_total N) total report x

pub record Ended (r : Result (Unit {0}) Refusal) (netlist : List ℕ) (taken : Result (Unit {0}) Refusal) (total : ℕ) (report ws ws' : List ℕ) : Type 0 where
  pub answer : (N : Netlist) → read_netlist netlist ≡ value N → answer_of r ≡ passes (end_of N total report (file_of taken ws))
  pub store : (N : Netlist) → read_netlist netlist ≡ value N → ws' ≡ left_store (end_of N total report (file_of taken ws))
