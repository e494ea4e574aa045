-- The cases of how many lines are shown.
use mathlib.Core.Path.{◌≡◌, refl, ap, sym, ◌∙◌}
use mathlib.Core.Bool.{Bool, true, false}
use Prim.Native.Nat.{ℕ, ◌-◌, ◌≤◌, ◌<◌, min}
use native.Mathlib.Nat.{min-eq_left, min-eq_right}
use native.Mathlib.Omega.{arith}
use borrow.Author.Tests.{le-ltb, lt-ltb}
use Rattle.report_claim_text.specs.Claims.{room_beside_of, shown_of}

pub room-left : (others : ℕ) → others < 10 → 20 - others ≡ room_beside_of others
unfolding room_beside_of
room-left others h = sym (rw (lt-ltb others 10 h, room_beside_of) refl)

pub room-least : (others : ℕ) → 10 ≤ others → 10 ≡ room_beside_of others
unfolding room_beside_of
room-least others h = sym (rw (le-ltb others 10 h, room_beside_of) refl)

module _ (lines others : ℕ) (all : Bool) where
  pub shown-all : all ≡ true → lines ≡ shown_of lines others all
  unfolding shown_of
  shown-all e = sym (ap (shown_of lines others) e)

  module _ (room : ℕ) (f : room ≡ room_beside_of others) (e : all ≡ false) where
    shown-least : shown_of lines others all ≡ min lines room
    unfolding shown_of
    shown-least = ap (shown_of lines others) e ∙ ap (min lines) (sym f)

    pub shown-fewer : lines < room → lines ≡ shown_of lines others all
    shown-fewer h = sym (shown-least ∙ min-eq_left (omega arith))

    pub shown-room : room ≤ lines → room ≡ shown_of lines others all
    shown-room h = sym (shown-least ∙ min-eq_right {n = room} {m = lines} h)
