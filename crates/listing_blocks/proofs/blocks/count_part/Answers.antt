-- `listing_blocks::blocks::count_part` meets its contract: the records of a block are read, marked and counted, and each end is one case.
use Rattle.model.proofs.Prelude.{refl, arith, rules}
use Rattle.audit_block.proofs.VectorCases.{tests-tables, marked-ready}
use Rattle.audit_block.proofs.BlockTakeCases.{block-some, block-few, read-ready}
use Rattle.listing_blocks.proofs.PartCases.{part-fits, whole-bytes, part-ended, part-more}
use Rattle.listing_blocks.proofs.blocks.count_part.Goals as goal

pub read_block-read-requires : goal.read_block-read-requires
read_block-read-requires c =
    (block-some c.requires, block-few c.requires, refl)

pub fill_block-requires : goal.fill_block-requires
fill_block-requires c =
    (tests-tables (read-ready c.requires c.read_block-read.ensures.1), c.requires.up_room_of, c.requires.down_room, refl, c.requires.memory.work_length)

pub count_block-answers-requires : goal.count_block-answers-requires
count_block-answers-requires c =
    marked-ready (read-ready c.requires c.read_block-read.ensures.1) c.fill_block.ensures.3 c.fill_block.ensures.4

pub record_length-bytes-requires : goal.record_length-bytes-requires
record_length-bytes-requires c =
    block-few c.requires

pub overflow_mul-bytes : goal.overflow_mul-bytes
overflow_mul-bytes c =
    omega (arith, part-fits c.requires c.read_block-read.ensures.1 c.record_length-bytes.ensures.0 c.record_length-bytes.ensures.2)

pub overflow_add-answers : goal.overflow_add-answers
overflow_add-answers c =
    omega (arith, (c.next_answer-next.ensures.some _ c.in-Err.is).0)

pub offset_bounds-answers-records : goal.offset_bounds-answers-records
offset_bounds-answers-records c =
    omega (arith, (c.next_answer-next.ensures.some _ c.in-Err.is).0)

pub bounds-answers-records : goal.bounds-answers-records
bounds-answers-records c =
    omega (arith, (c.next_answer-next.ensures.some _ c.in-Err.is).0)

pub overflow_mul-bytes-in-Err : goal.overflow_mul-bytes-in-Err
overflow_mul-bytes-in-Err c =
    omega (arith, part-fits c.requires c.read_block-read.ensures.1 c.record_length-bytes.ensures.0 c.record_length-bytes.ensures.2)

pub record_end-used-requires : goal.record_end-used-requires
record_end-used-requires c =
    whole-bytes c.requires c.read_block-read.ensures.1 c.record_length-bytes.ensures.0

pub overflow_add-lines : goal.overflow_add-lines
overflow_add-lines c =
    omega (arith, (c.next_answer-next.ensures.some _ c.in-Err.is).0)

pub enum_told-1 : goal.enum_told-1
enum_told-1 c = search rules

pub overflow_mul-used : goal.overflow_mul-used
overflow_mul-used c =
    omega (arith, part-fits c.requires c.read_block-read.ensures.1 c.record_length-bytes.ensures.0 c.record_length-bytes.ensures.2)

pub returns-in-Err : goal.returns-in-Err
returns-in-Err c =
    part-more c.requires c.read_block-read.ensures.1 c.fill_block.ensures.3 c.fill_block.ensures.4 c.count_block-answers.ensures.0 c.count_block-answers.ensures.1 c.fill_block.ensures.0 c.fill_block.ensures.1 c.record_length-bytes.ensures.0 c.next_answer-next.ensures
    c.in-Err.is c.record_end-used.ensures c.refusal_number.ensures

pub returns-in-Ok : goal.returns-in-Ok
returns-in-Ok c =
    part-ended c.requires c.read_block-read.ensures.1 c.fill_block.ensures.3 c.fill_block.ensures.4 c.count_block-answers.ensures.0 c.count_block-answers.ensures.1 c.fill_block.ensures.0 c.fill_block.ensures.1 c.record_length-bytes.ensures.0 c.next_answer-next.ensures
    c.in-Ok.is
