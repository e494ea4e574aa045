-- `viewer_ranges::inner::view_ranges` meets its contract: the ranges added so far, with those of the places that are left, make the runs he sees.
use Rattle.model.proofs.Prelude.{◌-◌}
use Rattle.viewer_ranges.proofs.ViewRangeCases.{view-cases}
use Rattle.viewer_ranges.proofs.inner.view_ranges.Goals as goal

pub outputs_part-part-requires : goal.outputs_part-part-requires
outputs_part-part-requires c = search view-cases

pub loop-i-init : goal.loop-i-init
loop-i-init c = search view-cases

pub offset_bounds-places-i : goal.offset_bounds-places-i
offset_bounds-places-i c = search view-cases

pub bounds-places-i : goal.bounds-places-i
bounds-places-i c = search view-cases

pub wide_word-place-requires : goal.wide_word-place-requires
wide_word-place-requires c = search view-cases

pub add_range-requires : goal.add_range-requires
add_range-requires c = search view-cases

pub enum_known-more : goal.enum_known-more
enum_known-more c = search view-cases

pub enum_told-1 : goal.enum_told-1
enum_told-1 c = search view-cases

pub shape_of-words-in_default : goal.shape_of-words-in_default
shape_of-words-in_default c = search view-cases

pub returns-in_default : goal.returns-in_default
returns-in_default c = search view-cases

pub loop-i-preserved : goal.loop-i-preserved
loop-i-preserved c = search view-cases

pub shape_of-words : goal.shape_of-words
shape_of-words c = search view-cases

pub returns : goal.returns
returns c = search view-cases
