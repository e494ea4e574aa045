-- The cases of the functions on rows: of a row, the numbers before the place at hand are added to, the others are as found.
use Rattle.model.proofs.Prelude.{ℕ, ◌≤◌, ◌<◌, ◌+◌, ◌-◌, ◌^◌, ◌≡◌, ◌∙◌, ap, refl, sym, List, length, get_or, set, length-set, get_or-set_same}
use Rattle.model.proofs.Prelude.{get_or-set_other, arith, rules}
use mir.Val.{Fits}
use mir.Syntax.{w64}
use Rattle.model.specs.Base.{sum_of}
use Rattle.model.specs.Path.{counts_before}
use Rattle.model.proofs.BoolLaws.{cases}
use Rattle.model.proofs.NumberLaws.{counts_before-le, counts_before-all}
use Rattle.path_step.proofs.SplitLaws.{before-next}
use Rattle.length_rows.specs.Lengths.{lengths}
use Rattle.length_rows.specs.RowSums.{Room, Under, added, longer}
use Rattle.length_rows.proofs.RowLaws.{added_is, longer-short, longer-at}

-- `ms` is the row `ns` with the numbers of `f` added before place `at`
pub record Summed (ns ms : List ℕ) (f : ℕ → ℕ) (at : ℕ) : Type 0 where
  pub room : Room ns f
  pub same : length ms ≡ lengths
  pub done : (l : ℕ) → l < at → l < lengths → get_or ms l 0 ≡ get_or ns l 0 + f l
  pub left : (l : ℕ) → at ≤ l → get_or ms l 0 ≡ get_or ns l 0

module _ {ns ms : List ℕ} {f : ℕ → ℕ} {at : ℕ} (s : Summed ns ms f at) where
  pub summed-end : lengths ≤ at → ms ≡ added ns f
  summed-end h = added_is ns ms f s.same (λ l b. s.done l (omega arith) b)

  module _ (here : at < lengths) (v : ℕ) (e : v ≡ f at) where
    summed-fits : Fits w64 (get_or ms at 0 + v)
    summed-fits = record { fits = omega (arith, s.left at (omega arith), s.room.fits at here) }

    summed-next : Summed ns (set ms at (get_or ms at 0 + v)) f (at + 1)
    summed-next =
        let there : at < length ms = omega (arith, s.same) in
        let now : get_or (set ms at (get_or ms at 0 + v)) at 0 ≡ get_or ns at 0 + f at =
        get_or-set_same ms at (get_or ms at 0 + v) 0 there ∙ omega (arith, s.left at (omega arith)) in
        record {
          room = s.room;
          same = length-set ms at (get_or ms at 0 + v) ∙ s.same;
          done = λ l b h. cases at l
              (λ u. let z : l ≡ at = omega arith in rw z now)
              (λ u. get_or-set_other ms at l (get_or ms at 0 + v) 0 (λ q. omega arith) ∙ s.done l u h);
          left = λ l b. get_or-set_other ms at l (get_or ms at 0 + v) 0 (λ q. omega arith) ∙ s.left l (omega arith);
        }

-- a row added to one for longer paths
module _ (ns row : List ℕ) (by : ℕ) where
  abbrev pub moved : ℕ → ℕ
  moved = longer by (λ l. get_or row l 0)

  pub longer-start : Room ns moved → Summed ns ns moved by
  longer-start r = record {
    room = r;
    same = r.long;
    done = λ l b h. let none = longer-short by (λ k. get_or row k 0) l b in omega arith;
    left = λ l b. refl;
  }

  module _ (ms : List ℕ) (at : ℕ) (s : Summed ns ms moved at) where
    module _ (low : by ≤ at) (here : at < lengths) where
      number : get_or row (at - by) 0 ≡ moved at
      number = sym (longer-at by (λ k. get_or row k 0) at low)

      pub longer-fits : Fits w64 (get_or ms at 0 + get_or row (at - by) 0)
      longer-fits = summed-fits s here (get_or row (at - by) 0) number

      pub longer-next : Summed ns (set ms at (get_or ms at 0 + get_or row (at - by) 0)) moved (at + 1)
      longer-next = summed-next s here (get_or row (at - by) 0) number

-- what the numbers of a row have over those of another
module _ (ns high low : List ℕ) where
  abbrev pub over : ℕ → ℕ
  over l = get_or high l 0 - get_or low l 0

  pub over-start : Room ns over → Summed ns ns over 0
  over-start r = record { room = r; same = r.long; done = λ l b h. absurd (omega arith); left = λ l b. refl }

  pub over-less : Under low high → (at : ℕ) → at < lengths → get_or low at 0 ≤ get_or high at 0
  over-less u at h = u.under at h

  module _ (ms : List ℕ) (at : ℕ) (s : Summed ns ms over at) where
    module _ (here : at < lengths) where
      pub over-fits : Fits w64 (get_or ms at 0 + (get_or high at 0 - get_or low at 0))
      over-fits = summed-fits s here (get_or high at 0 - get_or low at 0) refl

      pub over-next : Summed ns (set ms at (get_or ms at 0 + (get_or high at 0 - get_or low at 0))) over (at + 1)
      over-next = summed-next s here (get_or high at 0 - get_or low at 0) refl

-- the sum of a row, place by place
module _ (row : List ℕ) (long : length row ≡ lengths) (sum at : ℕ) (e : sum ≡ counts_before at row) where
  pub row_fits : at < lengths → sum_of row < 2 ^ 64 → Fits w64 (sum + get_or row at 0)
  row_fits h b = record { fits = omega (arith, counts_before-le row at (omega arith)) }

  pub row_next : at < lengths → sum + get_or row at 0 ≡ counts_before (at + 1) row
  row_next h = omega (arith, before-next row at (omega arith))

  pub row-end : lengths ≤ at → at ≤ lengths → sum ≡ sum_of row
  row-end h b = let all : at ≡ length row = omega arith in e ∙ ap (λ k. counts_before k row) all ∙ counts_before-all row

pub ruleset longer-cases = (longer-start, longer-fits, longer-next, rules)

pub ruleset over-cases = (over-start, over-less, over-fits, over-next, rules)

pub ruleset row-cases = (row_fits, row_next, row-end, rules)
