-- What is drawn for a length, from its parts; nothing where it has no path.
use mathlib.Core.Path.{◌≡◌, refl, ap₂, sym}
use mathlib.Core.List.{List, []}
use Prim.Native.Nat.{ℕ, ◌+◌, ◌*◌, ◌<◌}
use native.Mathlib.Omega.{arith}
use borrow.Author.Tests.{lt-ltb, le-ltb}
use Rattle.text_line.specs.Lines.{ascii}
use Rattle.text_buffer.specs.Written.{Written, plain_line, number_line}
use Rattle.text_buffer.proofs.WrittenLaws.{then-written, written_as}
use Rattle.length_chart.specs.Chart.{height_in, title_lines, bar_lines, group_lines, length_bars}

module _ (gates paths rising falling : ℕ) where
  pub no-bars : paths ≡ 0 → [] ≡ length_bars gates paths rising falling
  unfolding length_bars
  no-bars h = sym (rw (le-ltb 0 paths (omega arith), length_bars) refl)

  bars_there : 0 < paths → group_lines gates paths rising falling ≡ length_bars gates paths rising falling
  unfolding length_bars
  bars_there h = sym (rw (lt-ltb 0 paths h, length_bars) refl)

  -- the parts of a group
  pub bars_written : {out o1 o2 o3 o4 o5 : List ℕ} {at m n k l end : ℕ} (r f : ℕ) → 0 < paths → r ≡ height_in rising paths → f ≡ height_in falling paths
      → Written out o1 at (number_line (ascii "<g transform='translate(") (200 + 24 * gates) (ascii " 240)'>")) m
      → Written o1 o2 m (title_lines gates paths rising falling) n
      → Written o2 o3 n (number_line (ascii "<text x='9' y='18' text-anchor='middle'>") gates (ascii "</text>")) k
      → Written o3 o4 k (bar_lines r f) l
      → Written o4 o5 l (plain_line (ascii "</g>")) end
      → Written out o5 at (length_bars gates paths rising falling) end
  unfolding group_lines
  bars_written r f h er ef place title label bars close =
      written_as (bars_there h) (then-written (then-written (then-written (then-written place title) label) (written_as (ap₂ bar_lines er ef) bars)) close)
