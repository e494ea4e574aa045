-- `audit_block::inner::apply_tests` meets its contract: the tests of a block are marked from their vectors, and applied.
use Rattle.model.proofs.Prelude.{refl}
use Rattle.audit_block.proofs.VectorCases.{tests-tables, marked-ready, tests-taken}
use Rattle.audit_block.proofs.inner.apply_tests.Goals as goal

pub fill_block-requires : goal.fill_block-requires
fill_block-requires c =
    (tests-tables c.requires, c.requires.up_room_of, c.requires.down_room, refl, c.requires.memory.work_length)

pub apply_block-requires : goal.apply_block-requires
apply_block-requires c =
    marked-ready c.requires c.fill_block.ensures.3 c.fill_block.ensures.4

pub returns : goal.returns
returns c =
    let made = c.fill_block.ensures in
    tests-taken c.requires made.3 made.4 c.apply_block.ensures.0 c.apply_block.ensures.1 made.0 made.1
