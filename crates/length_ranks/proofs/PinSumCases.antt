-- The cases of adding the rows of a gate's pins: the rows of the pins before the one at hand are added.
use Rattle.model.proofs.Prelude.{ℕ, ◌≤◌, ◌<◌, ◌+◌, ◌*◌, ◌≡◌, ◌∙◌, ap, sym, List, [], length, get_or, arith, rules}
use mir.Val.{Fits}
use mir.Syntax.{w64}
use Rattle.netlist.specs.Tables.{pin_count_in, pin_in}
use Rattle.path_step.specs.Picks.{PinsIn, pin_counts_in}
use Rattle.path_step.proofs.PinCases.{length-pins, pins-at, pin-room, pin-few}
use Rattle.path_step.proofs.SplitLaws.{before-next, before_small}
use Rattle.length_rows.specs.Lengths.{lengths}
use Rattle.length_rows.specs.RowSums.{Room, added, longer, column}
use Rattle.length_rows.proofs.RowLaws.{added_is, added-at, added-length, longer-same, longer-le, longer-plus, longer-none-at, column-at}
use Rattle.length_ranks.specs.NetRows.{pin_sums, pin_sums_before}

module _ (part : List ℕ) (rows : List (List ℕ)) (by : ℕ) (ns : List ℕ) (room : Room ns (longer by (pin_sums part rows))) where
  pub pins-start : ns ≡ added ns (longer by (pin_sums_before part rows 0))
  unfolding pin_sums_before
  pins-start = added_is ns ns (longer by (λ l. 0)) room.long (λ l h. omega (arith, longer-none-at by l))

  pub pins-end : (pin pins : ℕ) (ms : List ℕ) → pin ≤ pins → pins ≤ pin → ms ≡ added ns (longer by (pin_sums_before part rows pin))
      → ms ≡ added ns (longer by (pin_sums_before part rows pins))
  pins-end pin pins ms a b e = let same : pin ≡ pins = omega arith in rw same at e

  module _ (g : PinsIn part) (pins : ℕ) (few : pins ≤ pin_count_in part) (pin : ℕ) (there : pin < pins) (net : ℕ) (en : net ≡ pin_in part pin) where
    pub row-place : Fits w64 (net * 512)
    row-place = record { fits = omega (arith, g.low pin (omega arith)) }

    abbrev entry : ℕ → ℕ
    entry l = get_or (get_or rows net []) l 0

    listed : (l : ℕ) → pin < length (pin_counts_in part (column l rows))
    listed l = omega (arith, length-pins part (column l rows))

    at_pin : (l : ℕ) → get_or (pin_counts_in part (column l rows)) pin 0 ≡ entry l
    at_pin l = pins-at part (column l rows) pin (omega arith) ∙ column-at l rows (pin_in part pin) ∙ ap (λ n. get_or (get_or rows n []) l 0) (sym en)

    next : (l : ℕ) → pin_sums_before part rows (pin + 1) l ≡ pin_sums_before part rows pin l + entry l
    unfolding pin_sums_before
    next l = omega (arith, before-next (pin_counts_in part (column l rows)) pin (listed l), at_pin l)

    small : (l : ℕ) → pin_sums_before part rows pin l + entry l ≤ pin_sums part rows l
    unfolding pin_sums_before pin_sums
    small l = omega (arith, before_small (pin_counts_in part (column l rows)) pin (listed l), at_pin l)

    module _ (ms : List ℕ) (e : ms ≡ added ns (longer by (pin_sums_before part rows pin))) where
      so_far : (l : ℕ) → l < lengths → get_or ms l 0 ≡ get_or ns l 0 + longer by (pin_sums_before part rows pin) l
      so_far l h = ap (λ (x : List ℕ). get_or x l 0) e ∙ added-at ns (longer by (pin_sums_before part rows pin)) l h

      pub pins-room : Room ms (longer by entry)
      pins-room = record {
        long = ap (λ (x : List ℕ). length x) e ∙ added-length ns (longer by (pin_sums_before part rows pin));
        fits = λ l h.
            omega (
              arith,
              so_far l h,
              room.fits l h,
              longer-plus by (pin_sums_before part rows pin) entry l,
              longer-le by (λ k. pin_sums_before part rows pin k + entry k) (pin_sums part rows) l (λ k b. small k),
            );
      }

      pub pins-more : (ms' : List ℕ) → ms' ≡ added ms (longer by entry) → ms' ≡ added ns (longer by (pin_sums_before part rows (pin + 1)))
      pins-more ms' e' =
          e' ∙ added_is ns (added ms (longer by entry)) (longer by (pin_sums_before part rows (pin + 1))) (added-length ms (longer by entry))
          (λ l h.
          omega (
            arith,
            added-at ms (longer by entry) l h,
            so_far l h,
            longer-plus by (pin_sums_before part rows pin) entry l,
            longer-same by (pin_sums_before part rows (pin + 1)) (λ k. pin_sums_before part rows pin k + entry k) l (λ k b. next k),
          ))

pub ruleset pins-cases = (pins-start, pins-end, pins-room, pins-more, pin-room, pin-few, row-place, rules)
