-- `audit_records::inner::apply_records` meets its contract: the tables of the netlist are made, then the blocks taken on them.
use Rattle.model.proofs.Prelude.{refl}
use Rattle.audit_records.proofs.FileTableCases.{stage-tables, stage-blocks, stage-file}
use Rattle.audit_records.proofs.inner.apply_records.Goals as goal

pub fill_tables-file-requires : goal.fill_tables-file-requires
fill_tables-file-requires c =
    (stage-tables c.requires, refl, refl)

pub apply_blocks-requires : goal.apply_blocks-requires
apply_blocks-requires c =
    stage-blocks c.requires c.fill_tables-file.ensures refl refl

pub returns : goal.returns
returns c =
    stage-file c.requires c.fill_tables-file.ensures c.apply_blocks.ensures
