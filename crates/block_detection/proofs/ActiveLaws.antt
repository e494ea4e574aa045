-- The active word of a pin, from what the gate's pins show in a block.
use Rattle.model.proofs.Prelude.{ℕ, ◌≤◌, ◌<◌, ◌+◌, ◌*◌, ◌≡◌, ◌∙◌, ap, sym, subst, ap₂, Bool, ◌&&◌, List, get_or, arith, rules}
use mir.Val.{Fits}
use mir.Syntax.{w64}
use Rattle.model.specs.Base.{bit}
use Rattle.model.specs.Netlist.{Netlist, nets, pin_net}
use Rattle.model.specs.Path.{Edge, rising, falling}
use Rattle.model.specs.Detect.{Test, open_pin}
use Rattle.model.specs.Read.{kind_of, class_of}
use Rattle.netlist.specs.declared.inner.Shape.{Shape}
use Rattle.block_words.specs.Words.{WordIs, GateIs, PinsIn, noncontrolling_mask_of}
use Rattle.block_words.specs.Block.{FactWords, StateWords, LiveWords, active_pin}
use Rattle.block_words.specs.NetStates.{plane, NetsStated, PinsScanned, ActiveBoth, EdgeActive}
use Rattle.block_words.specs.declared.inner.gates.Gate.{Gate}
use Rattle.block_words.specs.declared.inner.gates.PinScan.{PinScan}
use Rattle.block_words.specs.declared.inner.robust.Live.{Live}
use Rattle.block_words.proofs.BlockNetLaws.{open_true}
use Rattle.block_words.proofs.GateTableLaws.{few-nets, well, count-is, pin-is, lower, gate-pins, high-kind}
use Rattle.path_faults.specs.Answers.{model_edge}
use Rattle.path_faults.specs.declared.Edge as Code
use Rattle.path_faults.specs.declared.Edge.TheVariants as at
use Rattle.block_detection.specs.PathWords.{live_at, PinThere, ActiveWord}

-- the words of the nets below a lower net
facts_below : {fact : Rattle.model.specs.Detect.Evaluation → Bool} {N : Netlist} {tests : ℕ → Test} {n top : ℕ} {array : List ℕ} (net : ℕ) → net ≤ top
    → FactWords fact N tests n top array → FactWords fact N tests n net array
facts_below net h x = record { words = λ k l. x.words k (omega arith) }

pub live_of : {N : Netlist} {tests : ℕ → Test} {n top : ℕ} {words : List ℕ} → NetsStated N tests n top words → (e : Edge) → LiveWords N tests e n top (plane (live_at e) words)
live_of y rising = y.rises
live_of y falling = y.falls

module _ (table words : List ℕ) (shape : Shape) (net pin : ℕ) (t : PinThere table words shape net pin) where
  pub there-few : net < 512
  there-few = omega (arith, few-nets t.known, t.high)

  module _ (g : Gate) (i : GateIs table net g) where
    pub there-pins : PinsIn table g
    there-pins = gate-pins t.known t.low t.high i

    pub there-mask : g.noncontrolling_mask ≡ noncontrolling_mask_of (kind_of g.kind)
    there-mask = i.mask_is

    pub there-kind : g.kind ≤ 8
    there-kind = high-kind t.known t.low t.high i

    pub there-pin : pin < 8
    there-pin =
        let c = t.known.is_in in
        let low : t.known.circuit.inputs ≤ net = omega (arith, c.inputs_are, t.low) in
        let high : net < nets t.known.circuit = omega (arith, c.nets_are, t.high) in
        omega (arith, t.is_pin, count-is (well c) low high (c.rows net low high) i, there-pins.few)

    pub there-fits : Fits w64 (pin * 8)
    there-fits = record { fits = omega (arith, there-pin) }

    module _ (scan : PinScan) (k : PinsScanned table g words scan) (class : ℕ) (rising_rows falling_rows : List ℕ) (live : Live)
        (a : ActiveBoth (class_of class) table g scan words rising_rows falling_rows live) where
      pins-active : (e : Edge) (rows : List ℕ) (r : ℕ) → EdgeActive table g a.opens (plane (live_at e) words) rows r → ActiveWord table words shape class e net pin (get_or rows pin 0)
      unfolding active_pin
      pins-active e rows r x = record {
        right = λ N tests n c b y l u h.
            let low : N.inputs ≤ net = omega (arith, c.inputs_are, t.low) in
            let high : net < nets N = omega (arith, c.nets_are, t.high) in
            let w = well c in
            let row = c.rows net low high in
            let below : net ≤ shape.nets = omega (arith, t.high) in
            let states : StateWords N tests n net (plane 0 words) (plane 1 words) (plane 2 words) =
            record {
              first = facts_below net below y.states.first;
              last = facts_below net below y.states.last;
              steady = facts_below net below y.states.steady;
            } in
            let opened : WordIs (a.opens pin) (λ v. open_pin N (tests v) net pin) n =
            open_true w low high row i tests n b.few states b {scan = scan} k.last k.unsteady a.opened pin l in
            x.each pin (omega (arith, count-is w low high row i)) u
            ∙ ap₂ (λ p q. p && q) (opened u h)
            (ap (λ q. bit (get_or (plane (live_at e) words) q 0) u) (pin-is w low high row i pin l)
            ∙ (live_of y e).words (pin_net N net pin) (omega (arith, lower w low high row i pin l, c.nets_are)) u h);
      }

      pub there-rises : (edge : Code.Edge) → edge ≡ at.Rising → ActiveWord table words shape class (model_edge edge) net pin (get_or rising_rows pin 0)
      there-rises edge e =
          subst (λ (d : Code.Edge). ActiveWord table words shape class (model_edge d) net pin (get_or rising_rows pin 0)) (sym e) (pins-active rising rising_rows live.up a.rises)

      pub there-falls : (edge : Code.Edge) → edge ≡ at.Falling → ActiveWord table words shape class (model_edge edge) net pin (get_or falling_rows pin 0)
      there-falls edge e =
          subst (λ (d : Code.Edge). ActiveWord table words shape class (model_edge d) net pin (get_or falling_rows pin 0)) (sym e) (pins-active falling falling_rows live.down a.falls)

pub ruleset there-cases = (there-few, there-pins, there-mask, there-kind, there-pin, there-fits, there-rises, there-falls, rules)

-- the live word of a net
pub live-rises : (words : List ℕ) (net : ℕ) (edge : Code.Edge) → edge ≡ at.Rising → get_or words (8 * net + 3) 0 ≡ get_or words (8 * net + live_at (model_edge edge)) 0
live-rises words net edge e = ap (λ (d : Code.Edge). get_or words (8 * net + live_at (model_edge d)) 0) (sym e)

pub live-falls : (words : List ℕ) (net : ℕ) (edge : Code.Edge) → edge ≡ at.Falling → get_or words (8 * net + 4) 0 ≡ get_or words (8 * net + live_at (model_edge edge)) 0
live-falls words net edge e = ap (λ (d : Code.Edge). get_or words (8 * net + live_at (model_edge d)) 0) (sym e)

pub ruleset live-cases = (live-rises, live-falls, rules)
