-- `viewer_places::inner::places_fit` meets its contract: the places from the present one on, with the least that it may be, are judged as the whole list is.
use Rattle.viewer_places.proofs.PlacesCases.{Judged}
use Rattle.viewer_places.proofs.inner.places_fit.Given as goal

abbrev pub invariant-loop-place : goal.invariant-loop-place
invariant-loop-place l = Judged l.outputs l.places l.place-index l.least
