-- One gate of a netlist in a block: its words from those of the nets at its pins, for every test of the block.
use Rattle.model.proofs.Prelude.{ℕ, ◌≤◌, ◌<◌, ◌-◌, suc, ◌^◌, ◌≡◌, ◌∙◌, ap, refl, sym, subst, ap₂, true, Bool, ◌&&◌, ◌||◌, List, [], ◌∷◌, map, length}
use Rattle.model.proofs.Prelude.{get_or, length-map, T, arith}
use mathlib.Core.List.{map-map}
use Rattle.model.specs.Base.{any_of, bit}
use Rattle.model.specs.Netlist.{Netlist, nets, gate_of, pins_of, pin_net}
use Rattle.model.specs.Detect.{Class, Test, Evaluation, no_evaluation, pin_evaluations, gate_value, gate_steady, is_open, open_pin}
use Rattle.model.specs.Read.{kind_of, pins_fit}
use Rattle.model.proofs.WellFormed.{WellFormed}
use Rattle.model.proofs.ListLaws.{get_d_map-in, any_map}
use Rattle.model.proofs.NetLaws.{evaluate-gate}
use Rattle.block_words.specs.Words.{WordIs, bits_at, words_at, unequal, noncontrolling_mask_of, pin_words, pin_word, GateIs, TallyAt, TallyIs, ValueIs}
use Rattle.block_words.specs.Robust.{evaluation_at, SteadyControllingIs, SteadyIs}
use Rattle.block_words.specs.NetStates.{PinOpenIs}
use Rattle.block_words.specs.Table.{GateRow}
use Rattle.block_words.specs.Block.{BlockOf, evaluated, FactWords, StateWords}
use Rattle.block_words.specs.declared.inner.gates.Gate.{Gate}
use Rattle.block_words.specs.declared.inner.gates.PinTally.{PinTally}
use Rattle.block_words.specs.declared.inner.gates.PinScan.{PinScan}
use Rattle.block_words.proofs.WordLaws.{column}
use Rattle.block_words.proofs.OpenWordCases.{ones-at}
use Rattle.block_words.proofs.GateTableLaws.{count-is, kind-is, kind_fits, pin-is, lower, pins-are}

-- the nets at the pins of a gate
abbrev at_pins : Netlist → Test → ℕ → List Evaluation
at_pins N t net = pin_evaluations N t.v1 t.v2 net

-- two tests that agree below `top`, at pins below it
any_same : (f g : ℕ → Bool) (top : ℕ) → ((i : ℕ) → i < top → f i ≡ g i) → (ps : List ℕ) → ((p : ℕ) → p < length ps → get_or ps p 0 < top) → any_of f ps ≡ any_of g ps
any_same f g top h [] l = refl
any_same f g top h (p ∷ ps) l =
    ap₂ (λ x y. x || y) (h p (l 0 (omega arith))) (any_same f g top h ps (λ q m. l (suc q) (omega arith)))

module _ {N : Netlist} {table : List ℕ} {net : ℕ} {g : Gate} (w : WellFormed N) (low : N.inputs ≤ net) (high : net < nets N) (r : GateRow N table net)
    (i : GateIs table net g) (tests : ℕ → Test) (n : ℕ) (few : n ≤ 64) where
  -- one fact of the nets at the pins
  module _ (fact : Evaluation → Bool) (array : List ℕ) (x : FactWords fact N tests n net array) (t : ℕ) (h : t < n) where
    facts : bits_at (pin_words table g array) t ≡ map fact (at_pins N (tests t) net)
    facts =
        ap (λ ps. bits_at (words_at array ps) t) (pins-are w low high r i)
        ∙ column array (λ k. fact (evaluated N (tests t) k)) t net (λ k l. x.words k l t h) (pins_of N net) (lower w low high r i)
        ∙ sym (map-map fact (evaluated N (tests t)) (pins_of N net))

    pub tally_facts : (mask : ℕ) (tally : PinTally) → TallyIs table g mask array tally → TallyAt (map fact (at_pins N (tests t) net)) (bit mask t) tally t
    tally_facts mask tally s = subst (λ vs. TallyAt vs (bit mask t) tally t) facts (s.at t)

    pub pin-fact : (p : ℕ) → p < length (pins_of N net) → bit (pin_word table g array p) t ≡ fact (get_or (at_pins N (tests t) net) p no_evaluation)
    pin-fact p l =
        ap (λ k. bit (get_or array k 0) t) (pin-is w low high r i p l) ∙ x.words (pin_net N net p) (lower w low high r i p l) t h
        ∙ ap fact (sym (get_d_map-in (evaluated N (tests t)) (pins_of N net) p 0 no_evaluation l))

  pins-length : (t : ℕ) → length (at_pins N (tests t) net) ≡ length (pins_of N net)
  pins-length t = length-map (pins_of N net) (evaluated N (tests t))

  mask_tally : {vs : List Bool} {tally : PinTally} (t : ℕ) → TallyAt vs (bit g.noncontrolling_mask t) tally t → TallyAt vs (bit (noncontrolling_mask_of (kind_of g.kind)) t) tally t
  mask_tally {vs} {tally} t s = subst (λ f. TallyAt vs (bit f t) tally t) i.mask_is s

  -- its net under a test
  net-is : (t : ℕ) → evaluated N (tests t) net ≡ record {
    under_v1 = gate_value (gate_of N net).kind (map (λ e. e.under_v1) (at_pins N (tests t) net));
    under_v2 = gate_value (gate_of N net).kind (map (λ e. e.under_v2) (at_pins N (tests t) net));
    steady = gate_steady (gate_of N net).kind (at_pins N (tests t) net);
  }
  net-is t = evaluate-gate N (tests t).v1 (tests t).v2 w.lower_pins net low high

  -- the value under one vector
  value-by : (fact : Evaluation → Bool)
      → ((t : ℕ) → fact (evaluated N (tests t) net) ≡ gate_value (gate_of N net).kind (map fact (at_pins N (tests t) net)))
      → (array : List ℕ) → FactWords fact N tests n net array → (tally : PinTally) (v : ℕ)
      → TallyIs table g g.noncontrolling_mask array tally → ValueIs g.kind tally.one tally.parity v
      → WordIs v (λ t. fact (evaluated N (tests t) net)) n
  value-by fact e array x tally v s m t h =
      let ns = at_pins N (tests t) net in
      let q = mask_tally t (tally_facts fact array x t h g.noncontrolling_mask tally s) in
      m.at (map fact ns) t (omega arith)
      (subst (λ k. T (pins_fit g.kind k)) (sym (length-map ns fact ∙ pins-length t)) (kind_fits w low high r i)) q.ones q.parities
      ∙ ap (λ k. gate_value k (map fact ns)) (kind-is w low high r i) ∙ sym (e t)

  pub value-first : {array : List ℕ} → FactWords (λ e. e.under_v1) N tests n net array → {tally : PinTally} {v : ℕ} → TallyIs table g g.noncontrolling_mask array tally
      → ValueIs g.kind tally.one tally.parity v → WordIs v (λ t. (evaluated N (tests t) net).under_v1) n
  value-first {array} x {tally} {v} s m = value-by (λ e. e.under_v1) (λ t. ap (λ (e : Evaluation). e.under_v1) (net-is t)) array x tally v s m

  pub value-last : {array : List ℕ} → FactWords (λ e. e.under_v2) N tests n net array → {tally : PinTally} {v : ℕ} → TallyIs table g g.noncontrolling_mask array tally
      → ValueIs g.kind tally.one tally.parity v → WordIs v (λ t. (evaluated N (tests t) net).under_v2) n
  value-last {array} x {tally} {v} s m = value-by (λ e. e.under_v2) (λ t. ap (λ (e : Evaluation). e.under_v2) (net-is t)) array x tally v s m

  -- steadiness
  module _ {firsts lasts steadies : List ℕ} (x : StateWords N tests n net firsts lasts steadies) where
    unsteady-tally : {unsteady : PinTally} → TallyIs table g (2 ^ 64 - 1) steadies unsteady → (t : ℕ) → t < n → TallyAt (map (λ e. e.steady) (at_pins N (tests t) net)) true unsteady t
    unsteady-tally {unsteady} s t h =
        subst (λ b. TallyAt (map (λ e. e.steady) (at_pins N (tests t) net)) b unsteady t) (ones-at t (omega arith))
        (tally_facts (λ e. e.steady) steadies x.steady t h (2 ^ 64 - 1) unsteady s)

    steady-controlling_there : {steady_controlling_of : ℕ} → SteadyControllingIs table g lasts steadies steady_controlling_of → (t : ℕ) → t < n
        → bit steady_controlling_of t ≡ any_of (λ e. e.steady && unequal (bit (noncontrolling_mask_of (kind_of g.kind)) t) e.under_v2) (at_pins N (tests t) net)
    steady-controlling_there {steady_controlling_of} a t h =
        let b = bit (noncontrolling_mask_of (kind_of g.kind)) t in
        a.at t ∙ ap (any_of (λ k. bit (get_or steadies k 0) t && unequal (bit g.noncontrolling_mask t) (bit (get_or lasts k 0) t))) (pins-are w low high r i)
        ∙ any_same (λ k. bit (get_or steadies k 0) t && unequal (bit g.noncontrolling_mask t) (bit (get_or lasts k 0) t))
        (λ k. (evaluated N (tests t) k).steady && unequal b (evaluated N (tests t) k).under_v2) net
        (λ k l. ap₂ (λ y z. y && z) (x.steady.words k l t h) (ap₂ unequal (ap (λ f. bit f t) i.mask_is) (x.last.words k l t h)))
        (pins_of N net) (lower w low high r i)
        ∙ any_map (λ e. e.steady && unequal b e.under_v2) (evaluated N (tests t)) (pins_of N net)

    pub steady-true : {unsteady : PinTally} {steady_controlling_of v : ℕ} → TallyIs table g (2 ^ 64 - 1) steadies unsteady → SteadyControllingIs table g lasts steadies steady_controlling_of
        → SteadyIs g.kind unsteady.one steady_controlling_of v → WordIs v (λ t. (evaluated N (tests t) net).steady) n
    steady-true s a m t h =
        m.at (at_pins N (tests t) net) t (omega arith) (unsteady-tally s t h).ones (steady-controlling_there a t h)
        ∙ ap (λ k. gate_steady k (at_pins N (tests t) net)) (kind-is w low high r i) ∙ sym (ap (λ (e : Evaluation). e.steady) (net-is t))

    -- the open pins in a class
    pub open_true : {c : Class} → BlockOf tests c n → {scan : PinScan} → TallyIs table g g.noncontrolling_mask lasts scan.last
        → TallyIs table g (2 ^ 64 - 1) steadies scan.unsteady
        → {opens : ℕ → ℕ}
        → ((p : ℕ) → p < g.pins → PinOpenIs c g.kind scan (pin_word table g firsts p) (pin_word table g lasts p) (pin_word table g steadies p) (opens p))
        → (p : ℕ) → p < length (pins_of N net) → WordIs (opens p) (λ t. open_pin N (tests t) net p) n
    unfolding open_pin
    open_true {c} b {scan} s₁ s₂ f p l t h =
        let ns = at_pins N (tests t) net in
        let q : p < length ns = rw (pins-length t) l in
        let e : evaluation_at (pin_word table g firsts p) (pin_word table g lasts p) (pin_word table g steadies p) t ≡ get_or ns p no_evaluation =
        (λ j. record {
          under_v1 = pin-fact (λ e. e.under_v1) firsts x.first t h p l j;
          under_v2 = pin-fact (λ e. e.under_v2) lasts x.last t h p l j;
          steady = pin-fact (λ e. e.steady) steadies x.steady t h p l j;
        }) in
        (f p (rw (count-is w low high r i) l)).at ns p t (omega arith) q
        (subst (λ k. T (pins_fit g.kind k)) (sym (pins-length t)) (kind_fits w low high r i))
        (mask_tally t (tally_facts (λ e. e.under_v2) lasts x.last t h g.noncontrolling_mask scan.last s₁)) (unsteady-tally s₂ t h) e
        ∙ ap (λ k. is_open c k ns p) (kind-is w low high r i) ∙ ap (λ d. is_open d (gate_of N net).kind ns p) (sym (b.in_class t h))
