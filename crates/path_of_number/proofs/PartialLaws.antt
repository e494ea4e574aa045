-- Partial paths one pin at a time: the pins of a number.
use Rattle.model.proofs.Prelude.{ℕ, ◌≤◌, ◌<◌, suc, zero, ◌≡◌, ◌∙◌, ap, refl, sym, List, ◌∷◌, length, get_or, arith}
use Rattle.model.specs.Netlist.{Netlist, nets, counts, pins_of, pin_net, pin_counts}
use Rattle.model.specs.Path.{split, path_at}
use Rattle.model.proofs.NetLaws.{count-gate}
use Rattle.model.proofs.NumberLaws.{Splits, splits, number-back, path-back, path_at-gate, pin-lower, pin_counts-at, length-pin_counts}
use Rattle.model.proofs.WellFormed.{WellFormed}

-- more steps than the net change nothing
path-enough : (N : Netlist) → WellFormed N → (fuel net k : ℕ) → net ≤ fuel → net < nets N → 1 ≤ k → k ≤ get_or (counts N) net 0
    → path_at N fuel net k ≡ path_at N net net k
path-enough N w fuel net k f l a b =
    let r = number-back N w net net k (omega arith) l a b in
    ap (path_at N fuel net) (sym r.same_number_of) ∙ path-back N w (path_at N net net k) fuel net f l r.is_valid

-- The pin that number `k` goes through, and the number there
module _ (N : Netlist) (w : WellFormed N) (net k : ℕ) (i : N.inputs ≤ net) (l : net < nets N) (a : 1 ≤ k) (b : k ≤ get_or (counts N) net 0) where
  abbrev pin : ℕ
  pin = (split (pin_counts N net) k).0

  abbrev there : ℕ
  there = (split (pin_counts N net) k).1

  chosen : Splits (pin_counts N net) k (split (pin_counts N net) k)
  chosen = splits (pin_counts N net) k a (omega (arith, count-gate N w.lower_pins net i l))

  pub pin-is-one : pin < length (pins_of N net)
  pin-is-one = omega (arith, chosen.place, length-pin_counts N w net)

  pub pin-below : pin_net N net pin < net
  pin-below = pin-lower N w net pin i l pin-is-one

  pub there-low : 1 ≤ there
  there-low = chosen.low

  pub there-high : there ≤ get_or (counts N) (pin_net N net pin) 0
  there-high = omega (arith, chosen.high, pin_counts-at N w net pin pin-is-one)

  pub path-step : path_at N net net k ≡ pin ∷ path_at N (pin_net N net pin) (pin_net N net pin) there
  path-step = go net refl
    where
      go : (fuel : ℕ) → fuel ≡ net → path_at N fuel net k ≡ pin ∷ path_at N (pin_net N net pin) (pin_net N net pin) there
      go zero e = absurd (omega (arith, pin-below))
      go (suc fuel) e =
          path_at-gate N w fuel net k i
          ∙ ap (λ (r : List ℕ). pin ∷ r) (path-enough N w fuel (pin_net N net pin) there (omega (arith, pin-below)) (omega (arith, pin-below)) there-low there-high)
