-- The records of a block in order on a sound store: the place Work of each, on the store that the one before it left.
use Rattle.std.specs.Prelude.{◌≡◌, List, ℕ, zero, suc, ◌+◌, ◌≤◌, length, drop}
use Rattle.model.specs.Base.{Answer, refused, value, ◌into◌, ◌then◌}
use Rattle.model.specs.Netlist.{Netlist}
use Rattle.model.specs.Detect.{Test}
use Rattle.model.specs.Store.{store_words_count}
use Rattle.model.specs.Calls.{Tested, store_left, work_words_count}
use Rattle.store_coverage.specs.Stage.{MemoryReady, work_stage}
use Rattle.block_words.specs.Table.{CircuitTable}
use Rattle.block_activity.specs.Marks.{OffsetTable, MarksTrue}
use Rattle.block_activity.specs.declared.inner.Batch.{Batch}
use Rattle.block_stage.specs.declared.inner.Applied.{Applied}
use Rattle.model.specs.Returned.{answer_of}

-- the place Work with n tests in order, from test t on: the number of the first refusal, or the store that they leave
unfoldable pub work_all : Netlist → (ℕ → Test) → ℕ → ℕ → List ℕ → Answer (List ℕ)
work_all N tests t zero ws = value ws
work_all N tests t (suc n) ws = work_stage N (tests t) ws into λ d. work_all N tests (suc t) n (store_left d)

-- one more if a test is taken, and none once one is refused
abbrev pub one_more_test : Answer Tested → (Tested → ℕ) → ℕ
one_more_test (refused n) others = 0
one_more_test (value d) others = 1 + others d

-- how many of them are taken before the first that is refused; all if none is
unfoldable pub work_taken : Netlist → (ℕ → Test) → ℕ → ℕ → List ℕ → ℕ
work_taken N tests t zero ws = 0
work_taken N tests t (suc n) ws = one_more_test (work_stage N (tests t) ws) (λ d. work_taken N tests (suc t) n (store_left d))

-- a block of a netlist: its tables, and what is marked of each record
pub record BlockAt (N : Netlist) (tests : ℕ → Test) (table offsets risingLists fallingLists marks : List ℕ) (batch : Batch) : Type 0 where
  pub few : batch.records ≤ 64
  pub circuit : CircuitTable N table batch.inputs batch.nets
  pub placed : OffsetTable N offsets
  pub marked : MarksTrue N tests batch.records risingLists fallingLists marks

pub record BlockReady (table offsets risingLists fallingLists marks : List ℕ) (batch : Batch) (ws work : List ℕ) : Type 0 where
  pub netlist : Netlist
  pub tests : ℕ → Test
  pub block : BlockAt netlist tests table offsets risingLists fallingLists marks batch
  pub memory : MemoryReady netlist ws work

-- the answer with the store that is left, how many were taken, and what holds of the lent memory
pub record BlockTaken (r : Applied) (N : Netlist) (tests : ℕ → Test) (n : ℕ) (ws ws' : List ℕ) : Type 0 where
  pub answer : (answer_of r.answer then value ws') ≡ work_all N tests 0 n ws
  pub taken : r.taken ≡ work_taken N tests 0 n ws

pub record MemoryKept (ws' work work' : List ℕ) : Type 0 where
  pub store_length : length ws' ≡ store_words_count
  pub same_length_of : length work' ≡ length work
  pub past_work : drop work_words_count work' ≡ drop work_words_count work
