-- A net's set, pin by pin, and the detected path numbers from the outputs' sets.
use Rattle.model.proofs.Prelude.{ℕ, ◌≤◌, ◌<◌, ◌+◌, suc, zero, ◌≡◌, ◌∙◌, ap, sym, ⊎_elim, ◌&&◌, ◌∷◌, length, get_or, ltb→lt, arith}
use Rattle.model.specs.Netlist.{Netlist, counts, nets, pins_of, pin_net, pin_counts, output_counts, output_net}
use Rattle.model.specs.Path.{counts_before, split, path_at, path_of}
use Rattle.model.specs.Detect.{all_open}
use Rattle.model.proofs.WellFormed.{WellFormed}
use Rattle.model.proofs.BoolLaws.{le_or_lt}
use Rattle.model.proofs.NetLaws.{count-gate}
use Rattle.model.proofs.NumberLaws.{splits, split-back, pin-lower, path_at-input, path_at-gate, length-pin_counts, pin_counts-at, length-output_counts}
use Rattle.detection.specs.Cases.{Case, in_set, detects_path}

module _ (N : Netlist) (w : WellFormed N) where
  -- more fuel than the net changes nothing
  same-fuel : (fuel fuel' net k : ℕ) → net ≤ fuel → net ≤ fuel' → net < nets N → 1 ≤ k → k ≤ get_or (counts N) net 0 → path_at N fuel net k ≡ path_at N fuel' net k
  same-fuel zero fuel' net k f f' l m h =
      path_at-input N w zero net k i ∙ sym (path_at-input N w fuel' net k i)
    where
      i : net < N.inputs
      i = omega (arith, ltb→lt 0 N.inputs w.some_input)
  same-fuel (suc fuel) zero net k f f' l m h =
      path_at-input N w (suc fuel) net k i ∙ sym (path_at-input N w zero net k i)
    where
      i : net < N.inputs
      i = omega (arith, ltb→lt 0 N.inputs w.some_input)
  same-fuel (suc fuel) (suc fuel') net k f f' l m h =
      ⊎_elim
      (λ i.
      let s = splits (pin_counts N net) k m (omega (arith, count-gate N w.lower_pins net i l)) in
      let j : (split (pin_counts N net) k).0 < length (pins_of N net) = rw (length-pin_counts N w net) at s.place in
      let low = pin-lower N w net (split (pin_counts N net) k).0 i l j in
      path_at-gate N w fuel net k i
      ∙ ap (λ ps. (split (pin_counts N net) k).0 ∷ ps)
      (same-fuel fuel fuel' _ _ (omega arith) (omega arith) (omega arith) s.low (omega (arith, s.high, pin_counts-at N w net _ j)))
      ∙ sym (path_at-gate N w fuel' net k i))
      (λ i. path_at-input N w (suc fuel) net k i ∙ sym (path_at-input N w (suc fuel') net k i))
      (le_or_lt N.inputs net)

module _ (K : Case) (w : WellFormed K.netlist) where
  abbrev N : Netlist
  N = K.netlist

  -- at an input
  pub set-input : (net k : ℕ) → net < N.inputs → in_set K net k ≡ K.makes_edge net
  unfolding in_set all_open
  set-input net k i = ap (all_open N K.is_open K.makes_edge net) (path_at-input N w net net k i)

  -- at a gate: number r of pin p's net, moved up by the counts of the pins before
  pub set-gate : (net p r : ℕ) → N.inputs ≤ net → net < nets N → p < length (pins_of N net) → 1 ≤ r → r ≤ get_or (counts N) (pin_net N net p) 0
      → in_set K net (r + counts_before p (pin_counts N net)) ≡ K.is_open net p && in_set K (pin_net N net p) r
  unfolding in_set all_open
  set-gate zero p r i l j m h = absurd (omega (arith, ltb→lt 0 N.inputs w.some_input))
  set-gate (suc net) p r i l j m h =
      let q = pin_net N (suc net) p in
      let low : q < suc net = pin-lower N w (suc net) p i l j in
      ap (all_open N K.is_open K.makes_edge (suc net))
      (path_at-gate N w net (suc net) (r + counts_before p (pin_counts N (suc net))) i
      ∙ ap (λ s. s.0 ∷ path_at N net (pin_net N (suc net) s.0) s.1)
      (split-back (pin_counts N (suc net)) p r (rw (length-pin_counts N w (suc net)) j) m (rw (pin_counts-at N w (suc net) p j) h)))
      ∙ ap (λ ps. K.is_open (suc net) p && all_open N K.is_open K.makes_edge q ps)
      (same-fuel N w net q q r (omega arith) (omega arith) (omega arith) m h)

  -- a path number, from its output's set
  pub set-output : (o r : ℕ) → o < length N.outputs → 1 ≤ r → r ≤ get_or (output_counts N) o 0
      → detects_path K (r + counts_before o (output_counts N)) ≡ in_set K (output_net N o) r
  unfolding detects_path path_of in_set
  set-output o r j m h =
      ap (λ s. all_open N K.is_open K.makes_edge (output_net N s.0) (path_at N (output_net N s.0) (output_net N s.0) s.1))
      (split-back (output_counts N) o r (rw (length-output_counts N w) j) m h)
