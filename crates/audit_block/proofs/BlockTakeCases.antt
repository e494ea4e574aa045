-- One block: what its records are handed, and its three ends: a record that the place Work refuses, one that the place Test refuses, all taken.
use Rattle.model.proofs.Prelude.{ℕ, ◌≤◌, ◌<◌, ◌+◌, ◌*◌, ◌≡◌, ◌∙◌, ap, refl, sym, ⊎_elim, ◌⊎◌, List, length, drop, le_trans, arith, rules}
use native.Mathlib.Nat.{mul-le-mul_left, mul-one}
use Rattle.model.specs.Base.{refused, value, ◌into◌, ◌then◌}
use Rattle.model.specs.Netlist.{Netlist}
use Rattle.model.specs.Detect.{Class}
use Rattle.model.specs.Read.{class_of, record_length}
use Rattle.model.specs.Refusals.{refusal_number_of}
use Rattle.model.specs.declared.Refusal.{Refusal}
use Rattle.model.specs.Report.{file_records, test_all}
use Rattle.model.proofs.BoolLaws.{le_or_lt}
use Rattle.model.proofs.PieceLaws.{test_all-append}
use Rattle.model.proofs.ReadLaws.{limits, in_class_lem}
use Rattle.store_coverage.specs.Stage.{MemoryReady}
use Rattle.block_activity.specs.Marks.{record_at, test_at, BlockRead}
use Rattle.block_activity.specs.declared.inner.Batch.{Batch}
use Rattle.block_stage.specs.declared.inner.Applied.{Applied}
use Rattle.audit_block.specs.RecordsTaken.{file_of, taken_of}
use Rattle.audit_block.specs.FileBlocks.{BlockTables, BlocksReady, BlockTrue, BlockDone}
use Rattle.audit_block.specs.VectorBlocks.{TestsAt, TestsReady, TestsTaken}
use Rattle.audit_block.specs.declared.inner.TakenRecords.{TakenRecords}
use Rattle.audit_block.specs.declared.inner.FileNumbers.{FileNumbers}
use Rattle.audit_block.proofs.MemoryLaws.{all-memory}
use Rattle.audit_block.proofs.TakenRecordLaws.{taken_then_of, taken-append, taken-most, taken-all}
use Rattle.audit_block.proofs.BlockFileLaws.{block_records, length-block, file-block, block-all, block-taken, rest-refused, rest-untaken}
use Rattle.std.specs.Prelude.{Result, Ok, Err}
use Rattle.model.specs.Returned.{answer_of}

-- a netlist's numbers
module _ {N : Netlist} {table offsets : List ℕ} {file : FileNumbers} (t : BlockTables N table offsets file) where
  pub some-input : 1 ≤ file.inputs
  some-input = omega (arith, t.circuit.inputs_are, (limits t.circuit.file N t.circuit.legal).some_input)

  pub few-inputs : file.inputs ≤ 64
  few-inputs = omega (arith, t.circuit.inputs_are, (limits t.circuit.file N t.circuit.legal).few_inputs)

module _ {table offsets : List ℕ} {file : FileNumbers} {risingLists fallingLists ws work : List ℕ} (s : BlocksReady table offsets file risingLists fallingLists ws work) where
  pub block-some : 1 ≤ file.inputs
  block-some = some-input s.tables

  pub block-few : file.inputs ≤ 64
  block-few = few-inputs s.tables

  module _ {part vectors : List ℕ} {n : ℕ} {after : (Result (Unit {0}) Refusal)} (read : (N : Netlist) → N.inputs ≡ file.inputs → BlockRead N part vectors n after) where
    abbrev pub batch : Batch
    batch = record { inputs = file.inputs; nets = file.nets; outputs = file.outputs; records = n; class = file.class }

    abbrev c : Class
    c = class_of file.class

    pub read_of : (N : Netlist) → BlockTables N table offsets file → BlockRead N part vectors n after
    read_of N t = read N (sym t.circuit.inputs_are)

    pub block-records : n ≤ 64
    block-records = (read_of s.netlist s.tables).few

    pub read-tests : (N : Netlist) → BlockTables N table offsets file → TestsAt N (test_at N c part) table offsets batch vectors
    read-tests N t = record {
      circuit = t.circuit;
      placed = t.placed;
      outputs_are = t.outputs_are;
      block = record { few = block-records; in_class = λ i h. in_class_lem N c _ };
      vectors_are = (read_of N t).vectors_are c;
    }

    pub read-ready : TestsReady table offsets batch vectors risingLists fallingLists ws work
    read-ready = record {
      netlist = s.netlist;
      tests = test_at s.netlist c part;
      given = read-tests s.netlist s.tables;
      memory = s.memory;
      up_room_of = s.up_room_of;
      down_room = s.down_room;
    }

    module _ {risingLists' fallingLists' ws' work' : List ℕ} {r : Applied}
        (done : TestsTaken r table offsets batch vectors risingLists risingLists' fallingLists fallingLists' ws ws' work work') where
      -- what the block's records answer, and those of the whole part
      module _ (N : Netlist) (t : BlockTables N table offsets file) (m : MemoryReady N ws work) where
        b : BlockRead N part vectors n after
        b = read_of N t

        abbrev block : List (List ℕ)
        block = block_records N part 0 n

        abbrev rest : List (List ℕ)
        rest = file_records N (drop (record_length N * n) part)

        answers : test_all N c block ws ≡ (answer_of r.answer then value ws')
        answers = block-all N c (record_at N part) work n m b.legal ∙ sym (done.of_tests N (test_at N c part) (read-tests N t) m).answer

        count : r.taken ≡ taken_of N c block ws
        count = (done.of_tests N (test_at N c part) (read-tests N t) m).taken ∙ sym (block-taken N c (record_at N part) work n m b.legal)

        all_of : test_all N c (file_records N part) ws ≡ (test_all N c block ws into λ left. test_all N c rest left)
        all_of = ap (λ (rs : List (List ℕ)). test_all N c rs ws) (file-block N part n b.whole) ∙ test_all-append N c block rest ws

        counted : taken_of N c (file_records N part) ws ≡ taken_then_of N c rest (test_all N c block ws) (taken_of N c block ws)
        counted = ap (λ (rs : List (List ℕ)). taken_of N c rs ws) (file-block N part n b.whole) ∙ taken-append N c block rest ws

        taken-few : r.taken ≤ n
        taken-few = omega (arith, count, taken-most N c block ws, length-block N part 0 n)

        -- the end of the file's records, by the number of a refusal
        refused-at : {taken : ℕ} {w : Refusal} → taken ≤ n → test_all N c (file_records N part) ws ≡ refused (refusal_number_of w) → taken ≡ taken_of N c (file_records N part) ws
            → BlockTrue (record { taken = taken; answer = Err w }) N c part ws ws' work'
        refused-at h q e = record {
          within = le_trans (mul-le-mul_left (record_length N) h) b.whole;
          onward = λ z. (let y : ◌≡◌ {A = ℕ} 0 1 = cc in absurd (omega arith));
          refuses = λ v z. record { all = q ∙ ap (λ (a : Result (Unit {0}) Refusal). file_of a ws) z; counted = e };
        }

        true_refused : (w : Refusal) → r.answer ≡ Err w → BlockTrue (record { taken = r.taken; answer = Err w }) N c part ws ws' work'
        true_refused w e =
            let q : test_all N c block ws ≡ refused (refusal_number_of w) = answers ∙ ap (λ (a : Result (Unit {0}) Refusal). answer_of a then value ws') e in
            refused-at taken-few (all_of ∙ rw q refl) (count ∙ sym (counted ∙ rw q refl))

        module _ (e : r.answer ≡ Ok tt) where
          made : test_all N c block ws ≡ value ws'
          made = answers ∙ ap (λ (a : Result (Unit {0}) Refusal). answer_of a then value ws') e

          all-taken : taken_of N c block ws ≡ n
          all-taken = taken-all N c block ws ws' made ∙ length-block N part 0 n

          goes_on : test_all N c (file_records N part) ws ≡ test_all N c rest ws'
          goes_on = all_of ∙ rw made refl

          counts-on : taken_of N c (file_records N part) ws ≡ n + taken_of N c rest ws'
          counts-on = counted ∙ rw (made, all-taken) refl

          true_next : (w : Refusal) → after ≡ Err w → BlockTrue (record { taken = n; answer = Err w }) N c part ws ws' work'
          true_next w o =
              let z = b.refuses w o in
              refused-at (omega arith) (goes_on ∙ rest-refused N c part n z.0 z.1 ws')
              (omega (arith, counts-on, rest-untaken N c part n z.0 z.1 ws'))

          some-taken : after ≡ Ok tt → record_length N ≤ length part → 1 ≤ n
          some-taken o l = ⊎_elim (λ (h : 1 ≤ n). h) (λ (h : n < 1). absurd (none n h (b.ended o))) (le_or_lt 1 n)
            where
              none : (k : ℕ) → k < 1 → (k ≡ 64) ⊎ (length part < record_length N * (k + 1)) → ⊥
              none k h x =
                  let z : k ≡ 0 = omega arith in
                  ⊎_elim (λ (q : k ≡ 64). omega arith)
                  (λ (q : length part < record_length N * (k + 1)). omega (arith, ap (λ i. record_length N * (i + 1)) z, mul-one (record_length N))) x

          true_onward : after ≡ Ok tt → BlockTrue (record { taken = n; answer = (Ok tt) }) N c part ws ws' work'
          true_onward o = record {
            within = b.whole;
            onward = λ z. record {
              some = some-taken o;
              rest = sym goes_on;
              counted = sym counts-on;
              memory = all-memory N c ws work work' m done.kept.same_length_of block ws' made;
            };
            refuses = λ v z. (let y : ◌≡◌ {A = ℕ} 0 1 = cc in absurd (omega arith));
          }

      ends : {x : TakenRecords} → x.taken ≤ n → ((N : Netlist) → BlockTables N table offsets file → MemoryReady N ws work → BlockTrue x N c part ws ws' work')
          → BlockDone x table offsets file part risingLists risingLists' fallingLists fallingLists' ws ws' work work'
      ends h f = record {
        few = omega (arith, block-records);
        store_length = done.store_length ∙ sym s.memory.store_length;
        kept = done.kept;
        of_circuit = f;
      }

      pub block_refused : {w : Refusal} → r.answer ≡ Err w
          → BlockDone (record { taken = r.taken; answer = Err w }) table offsets file part risingLists risingLists' fallingLists fallingLists' ws ws' work work'
      block_refused {w} e = ends (taken-few s.netlist s.tables s.memory) (λ N t m. true_refused N t m w e)

      pub block-next : r.answer ≡ Ok tt → {w : Refusal} → after ≡ Err w
          → BlockDone (record { taken = n; answer = Err w }) table offsets file part risingLists risingLists' fallingLists fallingLists' ws ws' work work'
      block-next e {w} o = ends (omega arith) (λ N t m. true_next N t m e w o)

      pub block-onward : r.answer ≡ Ok tt → after ≡ Ok tt
          → BlockDone (record { taken = n; answer = (Ok tt) }) table offsets file part risingLists risingLists' fallingLists fallingLists' ws ws' work work'
      block-onward e o = ends (omega arith) (λ N t m. true_onward N t m e o)

pub ruleset take_cases = (block-some, block-few, read-ready, block_refused, block-next, block-onward, rules)
