-- The cases of adding the rows of outputs: the rows of the outputs before the one at hand are added.
use Rattle.model.proofs.Prelude.{ℕ, ◌≤◌, ◌<◌, ◌+◌, ◌-◌, ◌*◌, ◌≡◌, ◌∙◌, ap, refl, sym, List, [], length, get_or, drop, take, arith, rules}
use Rattle.model.specs.Path.{counts_before}
use Rattle.model.proofs.NetLaws.{output-count-wire, output-count-gate}
use Rattle.netlist.specs.Tables.{output_in}
use Rattle.path_step.specs.Picks.{RecordsOfOutputs, output_counts_in}
use Rattle.path_step.proofs.OutputPicks.{length-counts, output-start, output-fits, output-room, output-few, total-again, total-end}
use Rattle.path_step.proofs.SplitLaws.{before-next, before_small}
use Rattle.length_rows.specs.Lengths.{lengths}
use Rattle.length_rows.specs.RowSums.{Room, added, longer, column}
use Rattle.length_rows.proofs.RowLaws.{added_is, added-at, added-length, added-same, longer-none, column-at}
use Rattle.length_ranks.specs.NetRows.{output_sum, output_sums}

-- one output
module _ (ns : List ℕ) (rows : List (List ℕ)) (inputs net : ℕ) (room : Room ns (output_sum inputs rows net)) where
  pub wire_added : net < inputs → ns ≡ added ns (output_sum inputs rows net)
  unfolding output_sum
  wire_added h = added_is ns ns (output_sum inputs rows net) room.long (λ l b. omega (arith, output-count-wire inputs (column l rows) net h))

  module _ (h : inputs ≤ net) where
    count-is : (l : ℕ) → output_sum inputs rows net l ≡ longer 0 (λ k. get_or (get_or rows net []) k 0) l
    unfolding output_sum
    count-is l =
        output-count-gate inputs (column l rows) net h ∙ column-at l rows net ∙ sym (longer-none (λ k. get_or (get_or rows net []) k 0) l)

    pub gate-room : Room ns (longer 0 (λ l. get_or (get_or rows net []) l 0))
    gate-room = record { long = room.long; fits = λ l b. omega (arith, room.fits l b, count-is l) }

    pub gate-added : (ms : List ℕ) → ms ≡ added ns (longer 0 (λ l. get_or (get_or rows net []) l 0)) → ms ≡ added ns (output_sum inputs rows net)
    gate-added ms e = e ∙ added-same ns (λ l b. sym (count-is l))

-- one output after the other
module _ (part : List ℕ) (n inputs : ℕ) (rows : List (List ℕ)) where
  abbrev listed : ℕ → List ℕ
  listed l = output_counts_in part n inputs (column l rows)

  -- for each length the sum over the outputs before a place
  unfoldable pub sums_before : ℕ → ℕ → ℕ
  sums_before o l = counts_before o (listed l)

  module _ (ns : List ℕ) (room : Room ns (output_sums part n inputs rows)) where
    pub outputs-start : ns ≡ added ns (sums_before 0)
    unfolding sums_before
    outputs-start = added_is ns ns (λ l. 0) room.long (λ l h. omega arith)

    pub outputs-end : (o : ℕ) (ms : List ℕ) → o ≤ n → n ≤ o → ms ≡ added ns (sums_before o) → ms ≡ added ns (output_sums part n inputs rows)
    unfolding sums_before output_sums
    outputs-end o ms a b e = e ∙ added-same ns (λ l h. total-end part n inputs (column l rows) o (sums_before o l) a b refl)

    module _ (g : RecordsOfOutputs part n) (o : ℕ) (there : o < n) (net : ℕ) (en : net ≡ output_in (take (length part - 4 * o) (drop (4 * o) part)))
        (ms : List ℕ) (e : ms ≡ added ns (sums_before o)) where
      abbrev here : ℕ → ℕ
      here = output_sum inputs rows net

      so_far : (l : ℕ) → l < lengths → get_or ms l 0 ≡ get_or ns l 0 + sums_before o l
      so_far l h = ap (λ (x : List ℕ). get_or x l 0) e ∙ added-at ns (sums_before o) l h

      next : (l : ℕ) → sums_before o l + here l ≡ sums_before (o + 1) l
      unfolding sums_before output_sum
      next l = total-again part n g o there net en inputs (column l rows) (here l) refl (sums_before o l) refl

      small : (l : ℕ) → sums_before o l + here l ≤ output_sums part n inputs rows l
      unfolding sums_before output_sums
      small l =
          let place : o < length (listed l) = omega (arith, length-counts part n inputs (column l rows)) in
          omega (arith, next l, before-next (listed l) o place, before_small (listed l) o place)

      pub outputs-room : Room ms here
      outputs-room = record {
        long = ap (λ (x : List ℕ). length x) e ∙ added-length ns (sums_before o);
        fits = λ l h. omega (arith, so_far l h, room.fits l h, small l);
      }

      pub outputs-more : (ms' : List ℕ) → ms' ≡ added ms here → ms' ≡ added ns (sums_before (o + 1))
      outputs-more ms' e' =
          e' ∙ added_is ns (added ms here) (sums_before (o + 1)) (added-length ms here) (λ l h. omega (arith, added-at ms here l h, so_far l h, next l))

pub ruleset output-row-cases = (wire_added, gate-room, gate-added, rules)

pub ruleset outputs-cases = (outputs-start, outputs-end, outputs-room, outputs-more, output-few, output-start, output-fits, output-room, rules)
