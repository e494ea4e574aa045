-- `audit_block::inner::fill_tables` meets its contract: the table of gates is made, then the path offsets of pins and outputs from it.
use Rattle.audit_block.proofs.TableCases.{tables-circuit, tables-offsets, tables-made}
use Rattle.audit_block.proofs.inner.fill_tables.Goals as goal

pub fill_table-requires : goal.fill_table-requires
fill_table-requires c = (tables-circuit c.requires.0, c.requires.1)

pub fill_path_offsets-requires : goal.fill_path_offsets-requires
fill_path_offsets-requires c =
    (tables-offsets c.requires.0 c.fill_table.ensures.1, c.requires.2)

pub returns : goal.returns
returns c =
    tables-made c.requires.0 c.fill_table.ensures.1 c.fill_path_offsets.ensures.1 c.args.class
