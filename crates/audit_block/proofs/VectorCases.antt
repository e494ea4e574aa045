-- A block of tests by their vectors: what marking and applying them is handed, and what they leave.
use Rattle.model.proofs.Prelude.{ℕ, ◌<◌, ◌≡◌, ◌∙◌, List, length, arith}
use Rattle.model.specs.Netlist.{Netlist}
use Rattle.model.specs.Detect.{Test}
use Rattle.model.specs.Read.{class_of}
use Rattle.model.proofs.NumberLaws.{output-net}
use Rattle.model.proofs.ReadLaws.{legal, limits}
use Rattle.store_coverage.specs.Stage.{MemoryReady}
use Rattle.block_words.specs.Block.{BlockOf}
use Rattle.block_words.specs.Table.{CircuitTable}
use Rattle.block_activity.specs.Marks.{OffsetTable, MarksTrue, VectorsOf}
use Rattle.block_activity.specs.EdgeMarks.{BatchTables, WorkKept}
use Rattle.block_activity.specs.Layout.{out_at}
use Rattle.block_activity.specs.declared.inner.Batch.{Batch}
use Rattle.block_stage.specs.BlockStage.{BlockAt, BlockReady, BlockTaken, MemoryKept}
use Rattle.block_stage.specs.declared.inner.Applied.{Applied}
use Rattle.audit_block.specs.VectorBlocks.{TestsAt, TestsReady, TestsTaken}

module _ {table offsets : List ℕ} {batch : Batch} {vectors risingLists fallingLists ws work : List ℕ} (s : TestsReady table offsets batch vectors risingLists fallingLists ws work) where
  out-net : (o : ℕ) → o < batch.outputs → out_at offsets o < 512
  out-net o h =
      let t = s.given in
      let N : Netlist = s.netlist in
      let l : o < length N.outputs = omega (arith, t.outputs_are) in
      omega (arith, t.placed.out_net o l, output-net N (legal t.circuit.file N t.circuit.legal) o l, (limits t.circuit.file N t.circuit.legal).few_nets)

  pub tests-tables : BatchTables table offsets batch
  tests-tables =
      let t = s.given in
      record {
        circuit = record { circuit = s.netlist; is_in = t.circuit };
        few_outputs = omega (arith, t.outputs_are, (limits t.circuit.file s.netlist t.circuit.legal).few_outputs);
        few_records = t.block.few;
        out_nets = out-net;
      }

  module _ {risingLists' fallingLists' marks : List ℕ} (filled : (N : Netlist) (tests : ℕ → Test) → CircuitTable N table batch.inputs batch.nets → OffsetTable N offsets
      → length N.outputs ≡ batch.outputs → BlockOf tests (class_of batch.class) batch.records → VectorsOf N tests batch.records vectors
      → MarksTrue N tests batch.records risingLists' fallingLists' marks)
      {work₁ : List ℕ} (lent : WorkKept work work₁) where
    pub marked-at : (N : Netlist) (tests : ℕ → Test) → TestsAt N tests table offsets batch vectors → BlockAt N tests table offsets risingLists' fallingLists' marks batch
    marked-at N tests t = record {
      few = t.block.few;
      circuit = t.circuit;
      placed = t.placed;
      marked = filled N tests t.circuit t.placed t.outputs_are t.block t.vectors_are;
    }

    pub still_ready : (N : Netlist) → MemoryReady N ws work → MemoryReady N ws work₁
    still_ready N m = record { store_length = m.store_length; sound = m.sound; work_length = omega (arith, m.work_length, lent.same_length_of) }

    pub marked-ready : BlockReady table offsets risingLists' fallingLists' marks batch ws work₁
    marked-ready = record {
      netlist = s.netlist;
      tests = s.tests;
      block = marked-at s.netlist s.tests s.given;
      memory = still_ready s.netlist s.memory;
    }

    pub tests-taken : {ws' work' : List ℕ} {r : Applied} → MemoryKept ws' work₁ work'
        → ((N : Netlist) (tests : ℕ → Test) → BlockAt N tests table offsets risingLists' fallingLists' marks batch → MemoryReady N ws work₁
        → BlockTaken r N tests batch.records ws ws')
        → length risingLists' ≡ length risingLists → length fallingLists' ≡ length fallingLists
        → TestsTaken r table offsets batch vectors risingLists risingLists' fallingLists fallingLists' ws ws' work work'
    tests-taken kept applied same_rising same_falling = record {
      store_length = kept.store_length;
      kept = record { same_rising = same_rising; same_falling = same_falling; same_length_of = kept.same_length_of ∙ lent.same_length_of; past_work = kept.past_work ∙ lent.past_work };
      of_tests = λ N tests t m. applied N tests (marked-at N tests t) (still_ready N m);
    }
