-- The greatest length that has a path, and the height of a bar.
use mathlib.Core.Path.{◌≡◌, refl, ap, sym, ◌∙◌}
use mathlib.Core.List.{List}
use Prim.Native.Nat.{ℕ, zero, suc, ◌-◌, ◌*◌, ◌/◌, ◌≤◌, ◌<◌}
use native.Mathlib.Nat.{div-div-eq-div-mul, mul-div-mul_right}
use native.Mathlib.Omega.{arith}
use borrow.Author.Tests.{lt-ltb, le-ltb, lt-leb, le-leb}
use lib.ListN.{get_or}
use Rattle.length_chart.specs.Chart.{longest_below, height_in}

-- The lengths below one, from the greatest down
pub longest_here : (paths : List ℕ) (left : ℕ) → 0 < left → 0 < get_or paths (left - 1) 0 → longest_below paths left ≡ left - 1
unfolding longest_below
longest_here paths zero h l = absurd (omega arith)
longest_here paths (suc n) h l =
    let same : suc n - 1 ≡ n = omega arith in
    let some : 0 < get_or paths n 0 = rw same at l in
    rw (lt-ltb 0 (get_or paths n 0) some, longest_below) (sym same)

pub longest_below_lem : (paths : List ℕ) (left : ℕ) → 0 < left → get_or paths (left - 1) 0 ≤ 0 → longest_below paths (left - 1) ≡ longest_below paths left
unfolding longest_below
longest_below_lem paths zero h l = absurd (omega arith)
longest_below_lem paths (suc n) h l =
    let same : suc n - 1 ≡ n = omega arith in
    let none : get_or paths n 0 ≤ 0 = rw same at l in
    ap (longest_below paths) same ∙ sym (rw (le-ltb 0 (get_or paths n 0) none, longest_below) refl)

pub longest_none : (paths : List ℕ) (left : ℕ) → left ≤ 0 → longest_below paths left ≡ 0
unfolding longest_below
longest_none paths zero h = refl
longest_none paths (suc n) h = absurd (omega arith)

-- The height of a bar
module _ (held paths : ℕ) where
  pub no-height : paths ≡ 0 → 0 ≡ height_in held paths
  unfolding height_in
  no-height h = sym (rw (le-ltb 0 paths (omega arith), height_in) refl)

  pub over-height : 0 < paths → paths < held → 0 ≡ height_in held paths
  unfolding height_in
  over-height h l = sym (rw (lt-ltb 0 paths h, lt-leb held paths l, height_in) refl)

  -- a fifth of the thousandths is the part of 200
  pub height_there : (share : ℕ) → 0 < paths → held ≤ paths → share ≡ held * 1000 / paths → share / 5 ≡ height_in held paths
  unfolding height_in
  height_there share h l e =
      let five : held * 1000 ≡ held * 200 * 5 = omega arith in
      let fifth : share / 5 ≡ held * 200 / paths =
      ap (λ (n : ℕ). n / 5) e
      ∙ div-div-eq-div-mul (held * 1000) paths 5
      ∙ ap (λ (n : ℕ). n / (paths * 5)) five
      ∙ mul-div-mul_right {m = 5} (held * 200) paths (omega arith) in
      fifth ∙ sym (rw (lt-ltb 0 paths h, le-leb held paths l, height_in) refl)
