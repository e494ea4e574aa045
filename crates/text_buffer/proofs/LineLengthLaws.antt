-- How many bytes are on a line: its length, and 128 at most.
use mathlib.Core.Path.{◌≡◌, ap, sym, ◌∙◌}
use mathlib.Core.List.{List}
use Prim.Native.Nat.{ℕ, ◌≤◌, ◌<◌}
use native.Mathlib.Omega.{arith}
use lib.ListN.{length, take, drop, take-append-drop}
use lib.Seq.{take_all, length-take-le, take-append_seam}

module _ (bytes : List ℕ) (long : length bytes ≡ 128) where
  pub full-line : (l : ℕ) → 128 < l → 128 ≡ length (take l bytes)
  full-line l h = sym (ap (length {A = ℕ}) (take_all l bytes (omega arith)) ∙ long)

  pub short-line : (l : ℕ) → l ≤ 128 → l ≡ length (take l bytes)
  short-line l h = sym (length-take-le l bytes (omega arith))

-- as many bytes as are on the line are the line
pub line-bytes : (l r : ℕ) (bytes : List ℕ) → r ≡ length (take l bytes) → take r bytes ≡ take l bytes
line-bytes l r bytes e =
    ap (λ (k : ℕ). take k bytes) e
    ∙ sym (ap (λ (x : List ℕ). take (length (take l bytes)) x) (take-append-drop l bytes))
    ∙ take-append_seam (take l bytes) (drop l bytes)
