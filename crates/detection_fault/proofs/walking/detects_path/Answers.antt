-- `detection_fault::walking::detects_path` meets its contract: the open pins of the record's vectors along the path.
use Rattle.detection_fault.proofs.OpenPathLaws.{asked-cases, asked-detects}
use Rattle.detection_fault.proofs.walking.detects_path.Goals as goal

pub read_vectors-vectors-requires : goal.read_vectors-vectors-requires
read_vectors-vectors-requires c = search asked-cases

pub open_masks-masks-requires : goal.open_masks-masks-requires
open_masks-masks-requires c = search asked-cases

pub returns : goal.returns
returns c =
    let edge = c.moved_of-moved.ensures in
    let masks = c.open_masks-masks.ensures in
    asked-detects c.requires _ _ c.read_vectors-vectors.ensures _ masks _ c.edges_of.ensures _ _ edge _ c.open_path.ensures
