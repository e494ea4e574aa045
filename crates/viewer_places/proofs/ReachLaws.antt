-- What a net's entry, its open pins and its detected faults depend on: the inputs from which the net can be reached.
use Rattle.model.proofs.Prelude.{ℕ, ◌≤◌, ◌<◌, ◌-◌, suc, zero, ◌≡◌, ◌∙◌, ap, refl, sym, ap₂, ⊎_elim, Bool, false, ◌&&◌, not, Bool·beq, List, [], ◌∷◌}
use Rattle.model.proofs.Prelude.{map, length, get_or, length-map, T, ltb, ltb→lt, lt→ltb, arith}
use lib.Arith.{le→nltb}
use lib.ListN.{get_or-eq_default}
use Rattle.model.specs.Base.{numbers_from}
use Rattle.model.specs.Netlist.{Netlist, Gate, net_by_net, at_nets, nets, is_input, pins_of, pin_net, gate_of}
use Rattle.model.specs.Path.{Edge, rising, falling, valid_at}
use Rattle.model.specs.Detect.{Class, Test, Evaluation, no_evaluation, evaluate, gate_evaluation, is_open, open_pin, has_edge, all_open}
use Rattle.model.proofs.BoolLaws.{all3, le_or_lt}
use Rattle.model.proofs.ListLaws.{get_d_map-in, numbers_from-at, length-numbers_from}
use Rattle.model.proofs.WellFormed.{WellFormed}
use Rattle.model.proofs.NetLaws.{kept, at-gate}
use Rattle.model.proofs.NumberLaws.{pin-lower, gate-of}
use Rattle.viewer_places.specs.Viewer.{ReachedFrom, SameInput}

-- entries at the same nets
at_nets-each : {A : Type 0} (d : A) (xs ys : List A) (ps : List ℕ) → ((p : ℕ) → p < length ps → get_or xs (get_or ps p 0) d ≡ get_or ys (get_or ps p 0) d)
    → at_nets xs d ps ≡ at_nets ys d ps
at_nets-each d xs ys [] h = refl
at_nets-each d xs ys (p ∷ ps) h = ap₂ (λ a r. a ∷ r) (h 0 (omega arith)) (at_nets-each d xs ys ps (λ q l. h (suc q) (omega arith)))

module _ (N : Netlist) (w : WellFormed N) where
  -- an input can be reached from itself, and a gate's net from every input that leads to one of its pins
  pub reach_input : (net : ℕ) → net < N.inputs → ReachedFrom N net net
  unfolding valid_at
  reach_input net h = record { pins = []; is_path = lt→ltb net N.inputs h; back = refl }

  pub reach_pin : (net p j : ℕ) → N.inputs ≤ net → p < length (pins_of N net) → ReachedFrom N (pin_net N net p) j → ReachedFrom N net j
  unfolding valid_at
  reach_pin net p j h i r = record {
    pins = p ∷ r.pins;
    is_path = all3 (not (is_input N net)) (ltb p (length (pins_of N net))) (valid_at N (pin_net N net p) r.pins) (le→nltb _ _ h) (lt→ltb _ _ i) r.is_path;
    back = r.back;
  }

  -- An entry that is built net by net comes from the entries of the inputs from which its net can be reached, whatever the entries are
  module _ {A : Type 0} (f : Gate → List A → A) (d : A) (xs ys : List A) (lx : length xs ≡ N.inputs) (ly : length ys ≡ N.inputs) where
    all : List A → List A
    all zs = net_by_net f d zs N.gates

    gate-entry : (zs : List A) → length zs ≡ N.inputs → (net : ℕ) → N.inputs ≤ net → net < nets N
        → get_or (all zs) net d ≡ f (gate_of N net) (at_nets (all zs) d (pins_of N net))
    unfolding all
    gate-entry zs l net h i =
        ap (λ k. get_or (net_by_net f d zs N.gates) k d) (omega arith)
        ∙ at-gate f d N.gates zs (rw l w.lower_pins) (net - N.inputs) (omega arith)

    cone-input : (net : ℕ) → net < N.inputs → ((j : ℕ) → ReachedFrom N net j → get_or xs j d ≡ get_or ys j d) → get_or (all xs) net d ≡ get_or (all ys) net d
    unfolding all
    cone-input net i h =
        kept f d N.gates xs net (omega arith) ∙ h net (reach_input net i) ∙ sym (kept f d N.gates ys net (omega arith))

    cone : (fuel net : ℕ) → net ≤ fuel → net < nets N → ((j : ℕ) → ReachedFrom N net j → get_or xs j d ≡ get_or ys j d)
        → get_or (all xs) net d ≡ get_or (all ys) net d
    cone zero net l m h = cone-input net (omega (arith, ltb→lt 0 N.inputs w.some_input)) h
    cone (suc fuel) net l m h =
        ⊎_elim
        (λ i.
        gate-entry xs lx net i m
        ∙ ap (f (gate_of N net)) (at_nets-each d (all xs) (all ys) (pins_of N net)
        (λ p q.
        let low = pin-lower N w net p i m q in
        cone fuel (pin_net N net p) (omega arith) (omega arith) (λ j r. h j (reach_pin net p j i q r))))
        ∙ sym (gate-entry ys ly net i m))
        (λ i. cone-input net i h)
        (le_or_lt N.inputs net)

    pub entry-same : (net : ℕ) → net < nets N → ((j : ℕ) → ReachedFrom N net j → get_or xs j d ≡ get_or ys j d)
        → get_or (net_by_net f d xs N.gates) net d ≡ get_or (net_by_net f d ys N.gates) net d
    unfolding all
    entry-same net m h = cone net net (omega arith) m h

    -- the entries at a gate's pins
    pub pins-same : (net : ℕ) → N.inputs ≤ net → net < nets N → ((j : ℕ) → ReachedFrom N net j → get_or xs j d ≡ get_or ys j d)
        → at_nets (net_by_net f d xs N.gates) d (pins_of N net) ≡ at_nets (net_by_net f d ys N.gates) d (pins_of N net)
    pins-same net i m h =
        at_nets-each d (net_by_net f d xs N.gates) (net_by_net f d ys N.gates) (pins_of N net)
        (λ p q.
        let low = pin-lower N w net p i m q in
        entry-same (pin_net N net p) (omega arith) (λ j r. h j (reach_pin net p j i q r)))

  -- two tests agree for a net
  abbrev pub SameFor : Test → Test → ℕ → Type 0
  SameFor t u net = (j : ℕ) → ReachedFrom N net j → SameInput t u j

  -- Entries that begin with both values of each input, as every class of tests wants them: at a gate's pins they are the same
  module _ {A : Type 0} (input : Bool → Bool → A) (f : Gate → List A → A) (d : A) (t u : Test) where
    inputs_of : Test → List A
    inputs_of v = map (λ j. input (get_or v.v1 j false) (get_or v.v2 j false)) (numbers_from 0 N.inputs)

    length-inputs : (v : Test) → length (inputs_of v) ≡ N.inputs
    unfolding inputs_of
    length-inputs v = length-map (numbers_from 0 N.inputs) (λ j. input (get_or v.v1 j false) (get_or v.v2 j false)) ∙ length-numbers_from 0 N.inputs

    inputs-same : (j : ℕ) → SameInput t u j → get_or (inputs_of t) j d ≡ get_or (inputs_of u) j d
    unfolding inputs_of
    inputs-same j s =
        let g : Test → ℕ → A = λ v k. input (get_or v.v1 k false) (get_or v.v2 k false) in
        let l : length (numbers_from 0 N.inputs) ≡ N.inputs = length-numbers_from 0 N.inputs in
        ⊎_elim
        (λ (h : N.inputs ≤ j).
        get_or-eq_default (inputs_of t) d (omega (arith, length-inputs t)) ∙ sym (get_or-eq_default (inputs_of u) d (omega (arith, length-inputs u))))
        (λ (h : j < N.inputs).
        let at : get_or (numbers_from 0 N.inputs) j 0 ≡ j = numbers_from-at N.inputs 0 j h ∙ omega arith in
        get_d_map-in (g t) (numbers_from 0 N.inputs) j 0 d (omega arith) ∙ ap (g t) at
        ∙ ap₂ input s.first s.second
        ∙ sym (get_d_map-in (g u) (numbers_from 0 N.inputs) j 0 d (omega arith) ∙ ap (g u) at))
        (le_or_lt N.inputs j)

    pub pins-same-by : (net : ℕ) → N.inputs ≤ net → net < nets N → SameFor t u net
        → at_nets (net_by_net f d (map (λ j. input (get_or t.v1 j false) (get_or t.v2 j false)) (numbers_from 0 N.inputs)) N.gates) d (pins_of N net)
        ≡ at_nets (net_by_net f d (map (λ j. input (get_or u.v1 j false) (get_or u.v2 j false)) (numbers_from 0 N.inputs)) N.gates) d (pins_of N net)
    unfolding inputs_of
    pins-same-by net i m h = pins-same f d (inputs_of t) (inputs_of u) (length-inputs t) (length-inputs u) net i m (λ j r. inputs-same j (h j r))

  -- the open pins of a class are the same
  pub open_same : (t u : Test) → t.class ≡ u.class → (net p : ℕ) → N.inputs ≤ net → net < nets N → SameFor t u net → open_pin N t net p ≡ open_pin N u net p
  unfolding open_pin evaluate
  open_same t u q net p i m h =
      ap₂ (λ (c : Class) (ns : List Evaluation). is_open c (gate_of N net).kind ns p) q
      (pins-same-by (λ a b. record { under_v1 = a; under_v2 = b; steady = Bool·beq a b }) (λ g ns. gate_evaluation g.kind ns) no_evaluation t u net i m h)

  pub edge_same : (t u : Test) (e : Edge) (j : ℕ) → SameInput t u j → has_edge t e j ≡ has_edge u e j
  unfolding has_edge
  edge_same t u rising j s = ap₂ (λ a b. not a && b) s.first s.second
  edge_same t u falling j s = ap₂ (λ a b. a && not b) s.first s.second

  -- Along a path, with any open pins that are the same where the tests agree
  module _ (t u : Test) (e : Edge) (A B : ℕ → ℕ → Bool) (same : (net p : ℕ) → N.inputs ≤ net → net < nets N → SameFor t u net → A net p ≡ B net p) where
    pub along : (ps : List ℕ) (net : ℕ) → net < nets N → T (valid_at N net ps) → SameFor t u net
        → all_open N A (has_edge t e) net ps ≡ all_open N B (has_edge u e) net ps
    unfolding all_open
    along [] net m v h = edge_same t u e net (h net (record { pins = []; is_path = v; back = refl }))
    along (p ∷ ps) net m v h =
        let g = gate-of N w net p ps v in
        let low = pin-lower N w net p g.0 m g.1 in
        ap₂ (λ a b. a && b) (same net p g.0 m h) (along ps (pin_net N net p) (omega arith) g.2 (λ j r. h j (reach_pin net p j g.0 g.1 r)))
