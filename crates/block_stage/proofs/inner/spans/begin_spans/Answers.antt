-- `block_stage::inner::spans::begin_spans` meets its contract: the sections of one edge stay while those of the other are found.
use Rattle.model.proofs.Prelude.{refl, inl, inr}
use Rattle.block_stage.proofs.inner.spans.begin_spans.Goals as goal

pub find_sections-requires : goal.find_sections-requires
find_sections-requires c = (c.input_spans.ensures.room, inl refl)

pub find_sections-requires-2 : goal.find_sections-requires-2
find_sections-requires-2 c = (c.find_sections.ensures.0, inr refl)

pub returns : goal.returns
returns c =
    let few = c.requires.0 in
    c.find_sections-2.ensures.1 _ few (c.find_sections.ensures.1 _ few c.input_spans.ensures)
