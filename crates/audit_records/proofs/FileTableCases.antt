-- The records of a file on the tables that are made for them, from those that the test stage is handed.
use Rattle.model.proofs.Prelude.{ℕ, ◌≡◌, ◌∙◌, sym, subst, List, length, arith}
use Rattle.model.specs.Netlist.{Netlist}
use Rattle.model.specs.Read.{class_of}
use Rattle.model.proofs.AnswerLaws.{value_inj}
use Rattle.netlist.specs.Tables.{SomeTables}
use Rattle.netlist.specs.declared.inner.Shape.{Shape}
use Rattle.store_coverage.specs.Stage.{MemoryReady, StageReady}
use Rattle.audit_records.specs.FileRecords.{BlocksTaken, FileTaken}
use Rattle.audit_block.specs.RecordsTaken.{FileTrue}
use Rattle.audit_block.specs.FileBlocks.{TablesMade, BlocksReady}
use Rattle.audit_block.specs.declared.inner.TakenRecords.{TakenRecords}
use Rattle.audit_block.specs.declared.inner.FileNumbers.{FileNumbers}
use Rattle.block_words.specs.Layout.{lists_size}

module _ {netlist positions net_counts : List ℕ} {shape : Shape} {ws work : List ℕ} (s : StageReady netlist positions net_counts shape ws work) where
  pub stage-tables : SomeTables netlist positions net_counts shape
  stage-tables = record { circuit = s.circuit; tables = s.tables }

  module _ {numbers : FileNumbers} {class : ℕ} {table offsets : List ℕ} (made : TablesMade numbers netlist positions net_counts shape class table offsets) where
    pub stage-blocks : {risingLists fallingLists : List ℕ} → length risingLists ≡ lists_size → length fallingLists ≡ lists_size
        → BlocksReady table offsets numbers risingLists fallingLists ws work
    stage-blocks u d = record {
      netlist = s.circuit;
      tables = made.tables s.circuit s.tables;
      memory = s.memory;
      up_room_of = omega (arith, u);
      down_room = omega (arith, d);
    }

    pub stage-file : {r : TakenRecords} {test_file ws' work' : List ℕ} → BlocksTaken r table offsets numbers test_file ws ws' work work'
        → FileTaken r netlist positions net_counts shape class test_file ws ws' work work'
    stage-file {r} {test_file} {ws'} b = record {
      of_circuit = λ N t.
          let memory = subst (λ (M : Netlist). MemoryReady M ws work) (value_inj (sym s.tables.legal ∙ t.legal)) s.memory in
          subst (λ (numbers : FileNumbers). FileTrue r N (class_of numbers.class) test_file ws ws') made.numbers_are (b.of_circuit N (made.tables N t) memory);
      few = b.few;
      same_length_of = b.same_length_of;
      past_work = b.past_work;
    }
