-- `path_of_number::writing::write_path` meets its contract: output, pins and number of pins, over zeros, are the words of the path.
use Rattle.path_of_number.proofs.PathWordLaws.{end-room, same-words}
use Rattle.path_of_number.proofs.WritingCases.{writing-cases, picked_pin, end_back, end_fits}
use Rattle.path_of_number.proofs.writing.write_path.Goals as goal

pub outputs_part-outputs-requires : goal.outputs_part-outputs-requires
outputs_part-outputs-requires c = search writing-cases

pub pick_output-out-requires : goal.pick_output-out-requires
pick_output-out-requires c = search writing-cases

pub overflow_cast-path : goal.overflow_cast-path
overflow_cast-path c =
    picked_pin _ _ _ _ _ c.requires.0 _ c.outputs_part-outputs.ensures _ c.pick_output-out.ensures

pub descend-end-requires : goal.descend-end-requires
descend-end-requires c = search writing-cases

pub overflow_sub-path : goal.overflow_sub-path
overflow_sub-path c =
    end_back _ _ _ _ _ c.requires.0 _ c.outputs_part-outputs.ensures _ c.pick_output-out.ensures c.clear.new.path _ _ c.descend-end.ensures

pub overflow_cast-path-2 : goal.overflow_cast-path-2
overflow_cast-path-2 c =
    end_fits _ _ _ _ _ c.requires.0 _ c.outputs_part-outputs.ensures _ c.pick_output-out.ensures c.clear.new.path _ _ c.descend-end.ensures

pub bounds-path-1 : goal.bounds-path-1
bounds-path-1 c =
    end-room _ _ c.descend-end.new.path c.pick_output-out.result.pin c.requires.1 c.clear.ensures c.path-2-1.given

pub shape_of-path : goal.shape_of-path
shape_of-path c =
    same-words _ _ c.descend-end.new.path c.pick_output-out.result.pin _ c.requires.1 c.clear.ensures c.path-2-1.given

pub returns : goal.returns
returns c = search writing-cases
