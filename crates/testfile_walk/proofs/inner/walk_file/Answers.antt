-- `testfile_walk::inner::walk_file` meets its contract: the length of the file decides, or its records do.
use Rattle.testfile_walk.proofs.FileCases.{file-whole, file-cut, file-cases}
use Rattle.testfile_walk.proofs.inner.walk_file.Goals as goal

pub record_length-each-requires : goal.record_length-each-requires
record_length-each-requires c = search file-cases

pub returns-then-whole_length : goal.returns-then-whole_length
returns-then-whole_length c =
    file-whole c.apply_pieces-walk.result _ _ _ _ _ _ _ c.apply_pieces-walk.ensures c.record_length-each.result c.record_length-each.ensures.0 c.whole_length.result c.whole_length.ensures c.if-whole_length.true

pub returns : goal.returns
returns c =
    file-cut c.apply_pieces-walk.result _ _ _ _ _ _ _ c.apply_pieces-walk.ensures c.record_length-each.result c.record_length-each.ensures.0 c.whole_length.result c.whole_length.ensures c.if-whole_length.false _ c.clear.ensures
