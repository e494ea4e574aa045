-- Partial paths one pin at a time: the number of pins.
use Rattle.model.proofs.Prelude.{ℕ, ◌≤◌, ◌<◌, ◌+◌, ◌≡◌, ◌∙◌, ap, refl, sym, ⊎_elim, true, Bool, List, [], ◌∷◌, length, get_or, arith, lt-ltb, le-ltb}
use Rattle.model.specs.Netlist.{Netlist, nets, counts, pins_of, pin_net, pin_counts}
use Rattle.model.specs.Path.{valid_at, number_at, counts_before}
use Rattle.model.proofs.BoolLaws.{true→T, bool_cases}
use Rattle.model.proofs.NumberLaws.{number-bounds, pin-lower}
use Rattle.model.proofs.WellFormed.{WellFormed}
use Rattle.path_to_number.specs.PathNumbers.{or_zero, partial_number}

module _ (N : Netlist) (net : ℕ) where
  module _ (i : net < N.inputs) where
    pub number-input : partial_number N net [] ≡ 1
    unfolding partial_number valid_at number_at
    number-input = rw (lt-ltb net N.inputs i) refl

    pub number-input-more : (p : ℕ) (ps : List ℕ) → partial_number N net (p ∷ ps) ≡ 0
    unfolding partial_number valid_at
    number-input-more p ps = rw (lt-ltb net N.inputs i) refl

  module _ (i : N.inputs ≤ net) where
    pub number_short : partial_number N net [] ≡ 0
    unfolding partial_number valid_at
    number_short = rw (le-ltb net N.inputs i) refl

    pub number-no-pin : (p : ℕ) (ps : List ℕ) → length (pins_of N net) ≤ p → partial_number N net (p ∷ ps) ≡ 0
    unfolding partial_number valid_at
    number-no-pin p ps h = rw (le-ltb net N.inputs i, le-ltb p (length (pins_of N net)) h) refl

    module _ (p : ℕ) (ps : List ℕ) (h : p < length (pins_of N net)) where
      pin-valid : valid_at N net (p ∷ ps) ≡ valid_at N (pin_net N net p) ps
      unfolding valid_at
      pin-valid = rw (le-ltb net N.inputs i, lt-ltb p (length (pins_of N net)) h) refl

      step : partial_number N net (p ∷ ps) ≡ or_zero (valid_at N (pin_net N net p) ps) (number_at N (pin_net N net p) ps + counts_before p (pin_counts N net))
      unfolding partial_number number_at
      step = ap (λ (v : Bool). or_zero v (number_at N (pin_net N net p) ps + counts_before p (pin_counts N net))) pin-valid

      module _ (w : WellFormed N) (l : net < nets N) (rest : ℕ) (er : rest ≡ partial_number N (pin_net N net p) ps) where
        below : pin_net N net p < net
        below = pin-lower N w net p i l h

        at_least : valid_at N (pin_net N net p) ps ≡ true → 1 ≤ number_at N (pin_net N net p) ps
        at_least v = (number-bounds N w ps (pin_net N net p) (omega (arith, below)) (true→T (valid_at N (pin_net N net p) ps) v)).0

        rest-is : rest ≡ or_zero (valid_at N (pin_net N net p) ps) (number_at N (pin_net N net p) ps)
        unfolding partial_number
        rest-is = er

        pub number-none : rest ≡ 0 → partial_number N net (p ∷ ps) ≡ 0
        number-none z =
            ⊎_elim
            (λ v. absurd (let q : rest ≡ number_at N (pin_net N net p) ps = rest-is ∙ rw v refl in omega (arith, q, at_least v)))
            (λ v. step ∙ rw v refl)
            (bool_cases (valid_at N (pin_net N net p) ps))

        pub number_more : (rest ≡ 0 → ⊥) → partial_number N net (p ∷ ps) ≡ rest + counts_before p (pin_counts N net)
        number_more some =
            ⊎_elim
            (λ v.
            let q : rest ≡ number_at N (pin_net N net p) ps = rest-is ∙ rw v refl in
            step ∙ rw v (ap (λ k. k + counts_before p (pin_counts N net)) (sym q)))
            (λ v. absurd (some (rest-is ∙ rw v refl)))
            (bool_cases (valid_at N (pin_net N net p) ps))

-- a number is at most its net's count
pub number_small : (N : Netlist) → WellFormed N → (net : ℕ) (ps : List ℕ) → net < nets N → partial_number N net ps ≤ get_or (counts N) net 0
unfolding partial_number
number_small N w net ps l =
    ⊎_elim
    (λ v. rw v (number-bounds N w ps net l (true→T (valid_at N net ps) v)).1)
    (λ v. rw v (omega arith))
    (bool_cases (valid_at N net ps))
