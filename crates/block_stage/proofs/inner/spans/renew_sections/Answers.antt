-- `block_stage::inner::spans::renew_sections` meets its contract: the sections of one edge stay while those of the other are found.
use Rattle.model.proofs.Prelude.{refl, inl, inr}
use Rattle.block_stage.proofs.inner.spans.renew_sections.Goals as goal

pub renew_edge-requires : goal.renew_edge-requires
renew_edge-requires c = (c.requires.1, inl refl)

pub renew_edge-requires-in-Ok : goal.renew_edge-requires-in-Ok
renew_edge-requires-in-Ok c = (c.renew_edge.ensures.0, inr refl)

pub returns-in-Ok : goal.returns-in-Ok
returns-in-Ok c = λ inputs few i. c.renew_edge-in-Ok.ensures.1 inputs few (c.renew_edge.ensures.1 inputs few i)
