-- `viewer_places::inner::places_fit` meets its contract: the places from the present one on, with the least that it may be, are judged as the whole list is.
use Rattle.viewer_places.proofs.PlacesCases.{places-cases}
use Rattle.viewer_places.proofs.inner.places_fit.Goals as goal

pub returns-then-places-lt1 : goal.returns-then-places-lt1
returns-then-places-lt1 c = search places-cases

pub loop-place-init : goal.loop-place-init
loop-place-init c = search places-cases

pub returns-then-place-least : goal.returns-then-place-least
returns-then-place-least c = search places-cases

pub returns-then-outputs-place : goal.returns-then-outputs-place
returns-then-outputs-place c = search places-cases

pub overflow_add-least : goal.overflow_add-least
overflow_add-least c = search places-cases

pub loop-place-preserved : goal.loop-place-preserved
loop-place-preserved c = search places-cases

pub returns : goal.returns
returns c = search places-cases
