-- `path_of_number::writing::clear` meets its contract.
use Rattle.model.proofs.Prelude.{◌-◌}
use Rattle.path_of_number.proofs.PathWordLaws.{blank-cases}
use Rattle.path_of_number.proofs.writing.clear.Goals as goal

pub loop-i-init : goal.loop-i-init
loop-i-init c = search blank-cases

pub offset_bounds-path-i : goal.offset_bounds-path-i
offset_bounds-path-i c = search blank-cases

pub bounds-path-i : goal.bounds-path-i
bounds-path-i c = search blank-cases

pub loop-i-preserved : goal.loop-i-preserved
loop-i-preserved c = search blank-cases

pub shape_of-path : goal.shape_of-path
shape_of-path c = search blank-cases

pub returns : goal.returns
returns c = search blank-cases
