-- `single_stage::inner::apply_legal` meets its contract: the record's vectors give the open pins and the edges that the place Work takes.
use Rattle.model.proofs.Prelude.{rules}
use Rattle.single_stage.proofs.LegalStageLaws.{legal-inputs, legal-length, legal-circuit, legal-work, legal-taken}
use Rattle.single_stage.proofs.inner.apply_legal.Goals as goal

pub read_vectors-vectors-requires : goal.read_vectors-vectors-requires
read_vectors-vectors-requires c = let ready = c.requires in (legal-inputs ready, legal-length ready)

pub open_masks-masks-requires : goal.open_masks-masks-requires
open_masks-masks-requires c = search (legal-circuit, rules)

pub work_on-requires : goal.work_on-requires
work_on-requires c =
    let edges = c.edges_of-edges.ensures in
    let masks = c.open_masks-masks.ensures in
    legal-work c.requires c.read_vectors-vectors.ensures masks edges

pub returns : goal.returns
returns c =
    let worked = c.work_on.ensures in
    let edges = c.edges_of-edges.ensures in
    let masks = c.open_masks-masks.ensures in
    legal-taken c.requires c.read_vectors-vectors.ensures masks edges worked
