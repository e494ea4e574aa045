-- The tables of a netlist for blocks of tests, from those that loading it left.
use Rattle.model.proofs.Prelude.{ℕ, refl, sym, List}
use Rattle.model.specs.Netlist.{Netlist}
use Rattle.netlist.specs.Tables.{CircuitTables, SomeTables, SomeCircuit}
use Rattle.netlist.specs.declared.inner.Shape.{Shape}
use Rattle.block_words.specs.Table.{CircuitTable}
use Rattle.block_activity.specs.Marks.{OffsetTable}
use Rattle.block_activity.specs.OffsetParts.{SomeOffsets}
use Rattle.audit_block.specs.FileBlocks.{TablesMade}

module _ {netlist positions counts : List ℕ} {shape : Shape} (s : SomeTables netlist positions counts shape) where
  pub tables-circuit : SomeCircuit netlist positions shape
  tables-circuit = record { counts = counts; known = s }

  module _ {table : List ℕ} (filled : (N : Netlist) (cs : List ℕ) → CircuitTables N netlist positions cs shape → CircuitTable N table shape.inputs shape.nets) where
    pub tables-offsets : SomeOffsets netlist counts shape table
    tables-offsets = record { circuit = s.circuit; known = record { positions = positions; tables = s.tables; gates = filled s.circuit counts s.tables } }

    pub tables-made : {offsets : List ℕ} → ((N : Netlist) (ps : List ℕ) → CircuitTables N netlist ps counts shape → CircuitTable N table shape.inputs shape.nets
        → OffsetTable N offsets) → (class : ℕ)
        → TablesMade (record { inputs = shape.inputs; nets = shape.nets; outputs = shape.outputs; class = class }) netlist positions counts shape class table offsets
    tables-made placed class = record {
      numbers_are = refl;
      tables = λ N t. record { circuit = filled N counts t; placed = placed N positions t (filled N counts t); outputs_are = sym t.outputs_are };
    }
