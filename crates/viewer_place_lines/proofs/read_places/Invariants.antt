-- `viewer_place_lines::read_places` meets its contract: the lines that are left, after the places so far, give the whole.
use Rattle.model.proofs.Prelude.{◌≤◌, ◌-◌, length}
use Rattle.viewer_place_lines.proofs.PlaceListLaws.{PlacesSoFar}
use Rattle.viewer_place_lines.proofs.read_places.Given as goal

abbrev pub invariant-loop-at : goal.invariant-loop-at
invariant-loop-at l = PlacesSoFar l.text l.list l.before l.at × (l.before ≤ l.at)

abbrev pub decreases-loop-at : goal.decreases-loop-at
decreases-loop-at l = length l.text - l.at
