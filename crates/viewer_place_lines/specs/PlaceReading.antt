-- What the readers of a line and of a text of places answer.
use Rattle.std.specs.Prelude.{◌≡◌, true, false, List, ℕ, ◌≤◌, length, take}
use Rattle.viewer_place_lines.specs.Places.{number_of, is_place_line, Places, listed, bad_line, most_kept}
use Rattle.viewer_place_lines.specs.declared.PlaceList.{PlaceList}
use Rattle.std.specs.Prelude.{Option, Result, Ok, Err, Some, None}

-- a line that is a place, and its number
pub record PlaceThere (place : ℕ) (line : List ℕ) : Type 0 where
  pub is_place : is_place_line line ≡ true
  pub number : place ≡ number_of line

abbrev pub LineTrue : Option ℕ → List ℕ → Type 0
LineTrue (Some n) bytes = PlaceThere n bytes
LineTrue None bytes = is_place_line bytes ≡ false

-- the places of a list
abbrev pub places_of : PlaceList → List ℕ
places_of l = take l.count l.places

-- a list counts no more places than it has room for
abbrev pub ListFits : PlaceList → Type 0
ListFits l = (l.count ≤ most_kept) × (length l.places ≡ most_kept)

-- what the code's answer says
abbrev pub told_by : Result (Unit {0}) ℕ → PlaceList → Places
told_by (Ok tt) l = listed (places_of l)
told_by (Err k) l = bad_line k
