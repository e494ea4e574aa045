-- How many paths have a length, pin by pin and output by output: the numbers 1 to k of a gate are those of the pins before the one that k goes
-- through, whole, and some of that pin's.
use Rattle.model.proofs.Prelude.{ℕ, ◌≤◌, ◌<◌, ◌+◌, suc, zero, ◌≡◌, ◌∙◌, ap, refl, sym, true, Bool, false, not, List, ◌∷◌, map, length, get_or}
use Rattle.model.proofs.Prelude.{length-map, eqb, ltb, ltb→lt, lt→ltb, arith, lt-leb}
use lib.Dec.{eqb-suc-suc, eqb-suc-zero, eqb-zero-suc}
use Rattle.model.specs.Base.{sum_of}
use Rattle.model.specs.Netlist.{Netlist, counts, nets, is_input, pins_of, pin_net, pin_counts, output_counts, output_net, path_total}
use Rattle.model.specs.Path.{CircuitPath, counts_before, split, valid_at, number_at, valid, number_of, path_at, path_of}
use Rattle.model.specs.Runs.{how_many}
use Rattle.model.proofs.BoolLaws.{T→true, all3, cases, false→not}
use Rattle.model.proofs.ListLaws.{get_d_map-in}
use Rattle.model.proofs.NetLaws.{count-gate}
use Rattle.model.proofs.NumberLaws.{splits, pin-lower, path-back, number-back, path-of_number, path_at-input, path_at-gate, length-pin_counts, pin_counts-at, output-net, length-output_counts}
use Rattle.model.proofs.NumberLaws.{output_counts-at, output_counts-none, output-gate}
use Rattle.model.proofs.RunSizeLaws.{how_many-same}
use Rattle.model.proofs.WellFormed.{WellFormed}
use Rattle.path_of_number.proofs.PartialLaws.{pin-is-one, there-high, path-step}
use Rattle.length_rows.specs.Lengths.{length_of, of_length, paths_up_to, partials_up_to, partials}
use Rattle.length_rows.proofs.HowManyLaws.{how_many-add, how_many-none, how_many-all, how_many-before, how_many-parts, how_many-most}
use Rattle.length_rows.proofs.RunCountLaws.{how_many-grows}

-- the partial paths of a length at the nets of a gate's pins
abbrev pub pin_partials : Netlist → ℕ → ℕ → List ℕ
pin_partials N net l = map (λ n. partials N n l) (pins_of N net)

-- the paths of a length that end at an output, and at each output: none where it is an input net
abbrev pub output_partial : Netlist → ℕ → ℕ → ℕ
output_partial N l net = elim (is_input N net) [ true ↦ 0 | false ↦ partials N net l ]

abbrev pub output_partials : Netlist → ℕ → List ℕ
output_partials N l = map (output_partial N l) N.outputs

-- no more than there are numbers
pub partials-few : (N : Netlist) (net l k : ℕ) → partials_up_to N net l k ≤ k
unfolding partials_up_to
partials-few N net l k = how_many-most (λ j. eqb (length (path_at N net net j)) l) k

pub paths-few : (N : Netlist) (l k : ℕ) → paths_up_to N l k ≤ k
unfolding paths_up_to
paths-few N l k = how_many-most (of_length N l) k

pub paths-grow : (N : Netlist) (l : ℕ) {m n : ℕ} → m ≤ n → paths_up_to N l m ≤ paths_up_to N l n
unfolding paths_up_to
paths-grow N l h = how_many-grows (of_length N l) h

module _ (N : Netlist) (w : WellFormed N) where
  abbrev count : ℕ → ℕ
  count net = get_or (counts N) net 0

  -- partial path `k` of a net has `l` gates
  abbrev long : ℕ → ℕ → ℕ → Bool
  long net l k = eqb (length (path_at N net net k)) l

  -- At an input: one partial path, of no gates
  pub partials-input : (net k : ℕ) → net < N.inputs → partials_up_to N net 0 k ≡ k
  unfolding partials_up_to
  partials-input net k i =
      how_many-same (long net 0) (λ j. true) k (λ j a b. ap (λ ps. eqb (length ps) 0) (path_at-input N w net net j i)) ∙ how_many-all k

  pub partials-input-more : (net l k : ℕ) → net < N.inputs → partials_up_to N net (suc l) k ≡ 0
  unfolding partials_up_to
  partials-input-more net l k i =
      how_many-same (long net (suc l)) (λ j. false) k (λ j a b. ap (λ ps. eqb (length ps) (suc l)) (path_at-input N w net net j i) ∙ eqb-zero-suc l)
      ∙ how_many-none k

  -- At a gate: none of no gates
  pub partials-gate-none : (net k : ℕ) → N.inputs ≤ net → partials_up_to N net 0 k ≡ 0
  unfolding partials_up_to
  partials-gate-none zero k i = absurd (omega (arith, ltb→lt 0 N.inputs w.some_input))
  partials-gate-none (suc net) k i =
      how_many-same (long (suc net) 0) (λ j. false) k
      (λ j a b. ap (λ ps. eqb (length ps) 0) (path_at-gate N w net (suc net) j i)
      ∙ eqb-suc-zero (length (path_at N net (pin_net N (suc net) (split (pin_counts N (suc net)) j).0) (split (pin_counts N (suc net)) j).1)))
      ∙ how_many-none k

  module _ (net l : ℕ) (i : N.inputs ≤ net) (m : net < nets N) where
    -- the path of a number that goes through pin p
    through : (p r : ℕ) → p < length (pins_of N net) → 1 ≤ r → r ≤ count (pin_net N net p)
        → path_at N net net (r + counts_before p (pin_counts N net)) ≡ p ∷ path_at N (pin_net N net p) (pin_net N net p) r
    unfolding number_at valid_at
    through p r j a h =
        let q = pin_net N net p in
        let lower = pin-lower N w net p i m j in
        let b = number-back N w q q r (omega arith) (omega arith) a h in
        let ps : List ℕ = path_at N q q r in
        ap (λ k. path_at N net net (k + counts_before p (pin_counts N net))) (sym b.same_number_of)
        ∙ path-back N w (p ∷ ps) net net (omega arith) m
        (all3 (not (is_input N net)) (ltb p (length (pins_of N net))) (valid_at N q ps) (false→not (is_input N net) (lt-leb (suc net) N.inputs (omega arith))) (lt→ltb _ _ j) b.is_valid)

    at_pin : (p k : ℕ) → p < length (pins_of N net) → k ≤ count (pin_net N net p)
        → how_many (λ r. long net (suc l) (r + counts_before p (pin_counts N net))) k ≡ partials_up_to N (pin_net N net p) l k
    unfolding partials_up_to
    at_pin p k j h =
        how_many-same (λ r. long net (suc l) (r + counts_before p (pin_counts N net))) (long (pin_net N net p) l) k
        (λ r a b. ap (λ ps. eqb (length ps) (suc l)) (through p r j a (omega arith)) ∙ eqb-suc-suc (length (path_at N (pin_net N net p) (pin_net N net p) r)) l)

    pins-long : length (pin_partials N net l) ≡ length (pin_counts N net)
    pins-long = length-map (pins_of N net) (λ n. partials N n l) ∙ sym (length-pin_counts N w net)

    each-pin : (p : ℕ) → p < length (pin_counts N net)
        → how_many (λ r. long net (suc l) (r + counts_before p (pin_counts N net))) (get_or (pin_counts N net) p 0) ≡ get_or (pin_partials N net l) p 0
    unfolding partials
    each-pin p q =
        let j : p < length (pins_of N net) = rw (length-pin_counts N w net) at q in
        ap (λ k. how_many (λ r. long net (suc l) (r + counts_before p (pin_counts N net))) k) (pin_counts-at N w net p j)
        ∙ at_pin p (count (pin_net N net p)) j (omega arith)
        ∙ sym (get_d_map-in (λ n. partials N n l) (pins_of N net) p 0 0 j)

    -- all partial paths of a gate's net
    pub partials-gate : partials N net (suc l) ≡ sum_of (pin_partials N net l)
    unfolding partials partials_up_to
    partials-gate =
        ap (how_many (long net (suc l))) (count-gate N w.lower_pins net i m)
        ∙ how_many-parts (long net (suc l)) (pin_counts N net) (pin_partials N net l) pins-long each-pin

    -- those up to a number
    pub partials-step : (k : ℕ) → 1 ≤ k → k ≤ count net
        → partials_up_to N net (suc l) k
        ≡ counts_before (split (pin_counts N net) k).0 (pin_partials N net l)
        + partials_up_to N (pin_net N net (split (pin_counts N net) k).0) l (split (pin_counts N net) k).1
    unfolding partials_up_to
    partials-step k a b =
        let Q : ℕ → Bool = long net (suc l) in
        let s = splits (pin_counts N net) k a (omega (arith, count-gate N w.lower_pins net i m)) in
        let p : ℕ = (split (pin_counts N net) k).0 in
        let r : ℕ = (split (pin_counts N net) k).1 in
        let one = pin-is-one N w net k i m a b in
        let whole : how_many Q k ≡ how_many Q (counts_before p (pin_counts N net) + r) = ap (how_many Q) (omega (arith, s.whole)) in
        let before = how_many-before Q (pin_counts N net) (pin_partials N net l) pins-long each-pin p (omega (arith, s.place)) in
        let here = at_pin p r one (there-high N w net k i m a b) in
        whole ∙ how_many-add Q (counts_before p (pin_counts N net)) r ∙ omega (arith, before, here)

  -- Over the outputs
  module _ (o : ℕ) (j : o < length N.outputs) (g : N.inputs ≤ output_net N o) where
    path-output : (r : ℕ) → 1 ≤ r → r ≤ count (output_net N o)
        → path_of N (r + counts_before o (output_counts N)) ≡ record { output = o; pins = path_at N (output_net N o) (output_net N o) r }
    unfolding number_of valid
    path-output r m h =
        let q = output_net N o in
        let b = number-back N w q q r (omega arith) (output-net N w o j) m h in
        let ps : List ℕ = path_at N q q r in
        ap (λ k. path_of N (k + counts_before o (output_counts N))) (sym b.same_number_of)
        ∙ path-of_number N w (record { output = o; pins = ps }) (all3 (ltb o (length N.outputs)) (ltb 0 (length ps)) (valid_at N q ps) (lt→ltb _ _ j)
        (lt→ltb 0 (length ps) (omega (arith, ap (λ (x : List ℕ). length x) (path-step N w q r g (output-net N w o j) m h)))) b.is_valid)

    at-output : (l k : ℕ) → k ≤ count (output_net N o)
        → how_many (λ r. of_length N l (r + counts_before o (output_counts N))) k ≡ partials_up_to N (output_net N o) l k
    unfolding length_of partials_up_to
    at-output l k h =
        how_many-same (λ r. of_length N l (r + counts_before o (output_counts N))) (long (output_net N o) l) k
        (λ r a b. ap (λ (p : CircuitPath). eqb (length p.pins) l) (path-output r a (omega arith)))

  outputs-long : (l : ℕ) → length (output_partials N l) ≡ length (output_counts N)
  outputs-long l = length-map N.outputs (output_partial N l) ∙ sym (length-output_counts N w)

  each-output : (l o : ℕ) → o < length (output_counts N)
      → how_many (λ r. of_length N l (r + counts_before o (output_counts N))) (get_or (output_counts N) o 0) ≡ get_or (output_partials N l) o 0
  unfolding partials
  each-output l o q =
      let j : o < length N.outputs = rw (length-output_counts N w) at q in
      let at : get_or (output_partials N l) o 0 ≡ output_partial N l (output_net N o) = get_d_map-in (output_partial N l) N.outputs o 0 0 j in
      let Q : ℕ → ℕ = λ k. how_many (λ r. of_length N l (r + counts_before o (output_counts N))) k in
      cases N.inputs (output_net N o)
      (λ g.
      let z : is_input N (output_net N o) ≡ false = lt-leb (suc (output_net N o)) N.inputs (omega arith) in
      let here : output_partial N l (output_net N o) ≡ partials N (output_net N o) l = rw (z, output_partial) refl in
      ap Q (output_counts-at N w o j g) ∙ at-output o j g l (count (output_net N o)) (omega arith) ∙ sym (at ∙ here))
      (λ g.
      let z : is_input N (output_net N o) ≡ true = T→true (is_input N (output_net N o)) (lt→ltb _ _ g) in
      let here : output_partial N l (output_net N o) ≡ 0 = rw (z, output_partial) refl in
      ap Q (output_counts-none N w o j g) ∙ nothing (λ r. of_length N l (r + counts_before o (output_counts N))) ∙ sym (at ∙ here))
    where
      nothing : (P : ℕ → Bool) → how_many P 0 ≡ 0
      nothing P = omega (arith, how_many-most P 0)

  -- the paths up to a number
  pub paths-step : (l k : ℕ) → 1 ≤ k → k ≤ path_total N
      → paths_up_to N l k
      ≡ counts_before (split (output_counts N) k).0 (output_partials N l)
      + partials_up_to N (output_net N (split (output_counts N) k).0) l (split (output_counts N) k).1
  unfolding path_total paths_up_to
  paths-step l k a b =
      let Q : ℕ → Bool = of_length N l in
      let s = splits (output_counts N) k a b in
      let o : ℕ = (split (output_counts N) k).0 in
      let r : ℕ = (split (output_counts N) k).1 in
      let j : o < length N.outputs = rw (length-output_counts N w) at s.place in
      let g : N.inputs ≤ output_net N o = output-gate N w o j (omega (arith, s.low, s.high)) in
      let few : r ≤ count (output_net N o) = omega (arith, s.high, output_counts-at N w o j g) in
      let whole : how_many Q k ≡ how_many Q (counts_before o (output_counts N) + r) = ap (how_many Q) (omega (arith, s.whole)) in
      let before = how_many-before Q (output_counts N) (output_partials N l) (outputs-long l) (each-output l) o (omega (arith, s.place)) in
      whole ∙ how_many-add Q (counts_before o (output_counts N)) r ∙ omega (arith, before, at-output o j g l r few)
