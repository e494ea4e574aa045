-- How many runs there can be: document 02, ticket 11. First of the definitions, then of the values that the functions return.
use Rattle.std.specs.Prelude.{◌≡◌, List, [], ℕ, ◌+◌, ◌-◌, ◌*◌, ◌≤◌, length}
use Rattle.model.specs.Base.{refused, value}
use Rattle.model.specs.Netlist.{Netlist, path_total}
use Rattle.model.specs.Path.{Edge}
use Rattle.model.specs.Detect.{Test}
use Rattle.model.specs.Read.{read_netlist}
use Rattle.model.specs.Store.{max_runs, empty_store, store_runs}
use Rattle.model.specs.Calls.{test_answer}
use Rattle.model.specs.Report.{audit_answer}
use Rattle.model.specs.Demand3.{CountOf, Detected, Call, start, after_calls}
use Rattle.model.specs.declared.Refusal.TheVariants as refusal
use Rattle.single_call.specs.TestPromise.{TestTrue}
use Rattle.audit.specs.Answers.{AuditTrue}
use Rattle.audit.specs.Promised.{MadeCall, Promised, last_store, taken_tests}
use Rattle.exhaust_pairs.specs.Exhaust.{exhaust_answer}
use Rattle.exhaust.specs.Answers.{ExhaustTrue}
use Rattle.audit_pieces.specs.Calls.{PieceTrue}
use Rattle.audit_pieces.specs.declared.PieceAnswer.{PieceAnswer}
use Rattle.audit_pieces.specs.declared.PieceAnswer.TheVariants as piece
use Rattle.std.specs.Prelude.{Result, Err}
use Rattle.model.specs.declared.Refusal.{Refusal}
use Rattle.store_coverage.specs.declared.TestCounts.{TestCounts}
use Rattle.store_words.specs.declared.inner.StoreTotals.{StoreTotals}

-- the most paths of a netlist on which no test is refused with 51: each run but the last has a number after it that is in no run
abbrev pub small_total : ℕ
small_total = 2 * max_runs

-- The runs of an edge in a store's words are at most the faults of that edge that the tests detect, each counted once, and at most T minus these
-- plus 1
pub record RunsBounded (N : Netlist) (ts : List Test) (ws : List ℕ) (e : Edge) : Type 0 where
  pub tested : ℕ
  pub tested_true : CountOf (Detected N ts e) tested
  pub at_most_tested : length (store_runs ws e) ≤ tested
  -- so that T minus these is a difference
  pub not_over_total : tested ≤ path_total N
  pub at_most_rest : length (store_runs ws e) ≤ path_total N - tested + 1

-- How many runs there can be, of the calls' definitions
pub record FewRuns : Type 0 where
  -- after every list of test calls from an empty store, each in the class that it is handed, for each edge
  pub after_every_list : (netlist : List ℕ) (N : Netlist) → read_netlist netlist ≡ value N
      → (calls : List Call) (e : Edge) → RunsBounded N (after_calls netlist N start calls).taken (after_calls netlist N start calls).store e
  -- no test on a netlist with few paths is refused with 51, in whatever class and on whatever store
  pub no_test_full : (netlist : List ℕ) (N : Netlist) → read_netlist netlist ≡ value N → path_total N ≤ small_total
      → (class : ℕ) (rec ws work : List ℕ) → test_answer netlist class rec ws work ≡ refused 51 → ⊥
  -- and no audit
  pub no_audit_full : (netlist : List ℕ) (N : Netlist) → read_netlist netlist ≡ value N → path_total N ≤ small_total
      → (class : ℕ) (test_file report ws work : List ℕ) → audit_answer netlist class test_file report ws work ≡ refused 51 → ⊥
  -- and no call with all pairs
  pub no_pairs_full : (netlist : List ℕ) (N : Netlist) → read_netlist netlist ≡ value N → path_total N ≤ small_total
      → (class : ℕ) (ws work : List ℕ) → exhaust_answer netlist class ws work ≡ refused 51 → ⊥

-- The same of the values that the functions return, by their promises
pub record CallsFewRuns : Type 0 where
  pub after_every_list : (netlist : List ℕ) (N : Netlist) → read_netlist netlist ≡ value N
      → (ms : List MadeCall) → Promised netlist empty_store ms → (e : Edge) → RunsBounded N (taken_tests N [] ms) (last_store empty_store ms) e
  pub no_test_full : (r : Result TestCounts Refusal) (netlist : List ℕ) (N : Netlist) → read_netlist netlist ≡ value N → path_total N ≤ small_total
      → (class : ℕ) (rec ws ws' found left : List ℕ) → TestTrue r netlist class rec ws ws' found left → r ≡ Err refusal.StoreRuns → ⊥
  pub no_audit_full : (r : Result (Unit {0}) Refusal) (netlist : List ℕ) (N : Netlist) → read_netlist netlist ≡ value N → path_total N ≤ small_total
      → (class : ℕ) (test_file report ws ws' found left : List ℕ) → AuditTrue r netlist class test_file report ws ws' found left
      → r ≡ Err refusal.StoreRuns → ⊥
  pub no_pairs_full : (r : Result StoreTotals Refusal) (netlist : List ℕ) (N : Netlist) → read_netlist netlist ≡ value N → path_total N ≤ small_total
      → (class : ℕ) (ws ws' found left : List ℕ) → ExhaustTrue r netlist class ws ws' found left → r ≡ Err refusal.StoreRuns → ⊥
  -- and no record of a piece, where a test file is audited in pieces
  pub no_record_full : (r : PieceAnswer) (netlist : List ℕ) (N : Netlist) → read_netlist netlist ≡ value N → path_total N ≤ small_total
      → (class : ℕ) (bytes ws ws' found left : List ℕ) → PieceTrue r netlist class bytes ws ws' found left
      → (taken : ℕ) → r ≡ piece.RecordRefused taken refusal.StoreRuns → ⊥

-- How many tests: an audit is never refused with 86, as 33 bounds its records. Of the definition, then of the value that the audit returns
pub record FewTests : Type 0 where
  pub no_audit : (netlist : List ℕ) (class : ℕ) (test_file report ws work : List ℕ) → audit_answer netlist class test_file report ws work ≡ refused 86 → ⊥
  pub no_audit_made : (r : Result (Unit {0}) Refusal) (netlist : List ℕ) (class : ℕ) (test_file report ws ws' found left : List ℕ)
      → AuditTrue r netlist class test_file report ws ws' found left → r ≡ Err refusal.TestsFull → ⊥
