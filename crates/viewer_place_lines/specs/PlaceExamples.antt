-- Texts of places, and what they say, worked by hand.
use Rattle.std.specs.Prelude.{List, [], ◌∷◌, ℕ}
use Rattle.viewer_place_lines.specs.Places.{Places, listed, bad_line}

-- a text and what it says
pub record Example : Type 0 where
  pub text : List ℕ
  pub says : Places

unfoldable pub examples : List Example
examples =
    -- nothing; `0`, `12` and `007` with ends 0A, 0D 0A and none; the largest place
    record { text = []; says = listed [] }
    ∷ record { text = 0x30 ∷ 0x0A ∷ 0x31 ∷ 0x32 ∷ 0x0D ∷ 0x0A ∷ 0x30 ∷ 0x30 ∷ 0x37 ∷ []; says = listed (0 ∷ 12 ∷ 7 ∷ []) }
    ∷ record { text = 0x36 ∷ 0x35 ∷ 0x35 ∷ 0x33 ∷ 0x35 ∷ 0x0A ∷ []; says = listed (65535 ∷ []) }
    -- `65536`; an empty line; a sign; a space after the digits
    ∷ record { text = 0x36 ∷ 0x35 ∷ 0x35 ∷ 0x33 ∷ 0x36 ∷ []; says = bad_line 1 }
    ∷ record { text = 0x31 ∷ 0x0A ∷ 0x0A ∷ 0x32 ∷ 0x0A ∷ []; says = bad_line 2 }
    ∷ record { text = 0x31 ∷ 0x0A ∷ 0x32 ∷ 0x0A ∷ 0x2B ∷ 0x33 ∷ 0x0A ∷ []; says = bad_line 3 }
    ∷ record { text = 0x31 ∷ 0x20 ∷ 0x0A ∷ 0x78 ∷ []; says = bad_line 1 }
    ∷ []
