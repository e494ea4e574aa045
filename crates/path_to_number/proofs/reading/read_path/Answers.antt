-- `path_to_number::reading::read_path` meets its contract: each return is a case of the words.
use Rattle.path_to_number.proofs.PathReadingCases.{reading-cases}
use Rattle.path_to_number.proofs.reading.read_path.Goals as goal

pub returns-then-words-lt3 : goal.returns-then-words-lt3
returns-then-words-lt3 c = search reading-cases

pub returns-then-words-pins : goal.returns-then-words-pins
returns-then-words-pins c = search reading-cases

pub returns-then-shape-place : goal.returns-then-shape-place
returns-then-shape-place c = search reading-cases

pub outputs_part-outputs-requires : goal.outputs_part-outputs-requires
outputs_part-outputs-requires c = search reading-cases

pub slice_bounds-output_net-count : goal.slice_bounds-output_net-count
slice_bounds-output_net-count c = search reading-cases

pub slice_bounds-output_net-start : goal.slice_bounds-output_net-start
slice_bounds-output_net-start c = search reading-cases

pub output_net-net-requires : goal.output_net-net-requires
output_net-net-requires c = search reading-cases

pub number_of-rest-requires : goal.number_of-rest-requires
number_of-rest-requires c = search reading-cases

pub returns-then-rest-eq0 : goal.returns-then-rest-eq0
returns-then-rest-eq0 c = search reading-cases

pub outputs_before-requires : goal.outputs_before-requires
outputs_before-requires c = search reading-cases

pub overflow_add-result : goal.overflow_add-result
overflow_add-result c = search reading-cases

pub returns : goal.returns
returns c = search reading-cases
