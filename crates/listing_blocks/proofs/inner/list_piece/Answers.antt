-- `listing_blocks::inner::list_piece` meets its contract: the tables that are made are those of the netlist, and its blocks are listed with them.
use Rattle.model.proofs.Prelude.{refl}
use Rattle.listing_blocks.proofs.PieceSteps.{piece-tables, piece-blocks, piece-listed}
use Rattle.listing_blocks.proofs.inner.list_piece.Goals as goal

pub fill_tables-numbers-requires : goal.fill_tables-numbers-requires
fill_tables-numbers-requires c =
    (piece-tables c.requires, refl, refl)

pub list_blocks-requires : goal.list_blocks-requires
list_blocks-requires c =
    piece-blocks c.requires c.fill_tables-numbers.ensures

pub returns : goal.returns
returns c =
    piece-listed c.requires c.fill_tables-numbers.ensures c.list_blocks.ensures
