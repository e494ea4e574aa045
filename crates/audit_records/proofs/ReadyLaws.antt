-- A legal netlist as it was loaded, with a store that no rule refuses: what its records, their length and the report want.
use Rattle.model.proofs.Prelude.{ℕ, ◌≤◌, ◌^◌, List}
use Rattle.netlist.specs.declared.inner.Loaded.{Loaded}
use Rattle.netlist.proofs.TableLaws.{few-inputs}
use Rattle.store_words.specs.Sound.{SoundWords}
use Rattle.store_coverage.specs.Stage.{StageReady}
use Rattle.audit_block.proofs.MemoryLaws.{memory-sound}
use Rattle.audit_records.specs.FileRecords.{Ready}

module _ (netlist : List ℕ) (loaded : Loaded) (ws work : List ℕ) (ready : Ready netlist loaded ws work) where
  pub ready-inputs : loaded.shape.inputs ≤ 64
  ready-inputs = few-inputs ready.tables

  pub ready-records : StageReady netlist loaded.positions loaded.counts loaded.shape ws work
  ready-records = record { circuit = ready.circuit; tables = ready.tables; memory = ready.memory }

  pub ready-sound : SoundWords (2 ^ 62) ws
  ready-sound = memory-sound netlist ready.circuit ready.tables.legal ws work ready.memory
