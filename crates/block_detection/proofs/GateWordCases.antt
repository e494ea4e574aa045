-- The cases of one pass over the gates: the words of the nets before the one at hand are right.
use Rattle.model.proofs.Prelude.{ℕ, ◌≤◌, ◌<◌, ◌+◌, ◌*◌, ◌≡◌, ◌∙◌, ap, subst, List, length, get_or, add-zero, arith}
use Rattle.model.specs.Netlist.{Netlist, nets, pins_of}
use Rattle.model.specs.Path.{rising, falling}
use Rattle.model.specs.Detect.{Test, open_pin}
use Rattle.model.specs.Read.{class_of}
use Rattle.netlist.specs.declared.inner.Shape.{Shape}
use Rattle.block_words.specs.Words.{WordIs, GateIs}
use Rattle.block_words.specs.Table.{CircuitTable, SomeTable}
use Rattle.detection.specs.Cases.{case_of}
use Rattle.block_words.specs.Block.{live_net, evaluated, BlockOf}
use Rattle.block_words.specs.NetStates.{PinsScanned, ActiveBoth, StateIs, NetPut, StatesKept, NetsStated}
use Rattle.block_words.specs.declared.inner.gates.Gate.{Gate}
use Rattle.block_words.specs.declared.inner.gates.PinScan.{PinScan}
use Rattle.block_words.specs.declared.inner.robust.Live.{Live}
use Rattle.block_words.specs.declared.inner.words.NetState.{NetState}
use Rattle.block_words.proofs.GateTableLaws.{few-nets, from-inputs, well}
use Rattle.block_words.proofs.BlockNetLaws.{value-first, value-last, steady-true, open_true}
use Rattle.block_words.proofs.NetPutLaws.{kept-start, kept_more, plane-more}
use Rattle.block_words.proofs.LiveEntryLaws.{live-true}
use Rattle.block_detection.specs.PathWords.{GatesStated}

pub record Stating (table : List ℕ) (shape : Shape) (class : ℕ) (words₀ words : List ℕ) (net : ℕ) : Type 0 where
  pub from_inputs : shape.inputs ≤ net
  pub to_nets : net ≤ shape.nets
  pub kept : StatesKept words₀ words
  pub right : (N : Netlist) (tests : ℕ → Test) (n : ℕ) → CircuitTable N table shape.inputs shape.nets → BlockOf tests (class_of class) n
      → NetsStated N tests n shape.inputs words₀ → NetsStated N tests n net words

module _ {table : List ℕ} {shape : Shape} (s : SomeTable table shape.inputs shape.nets) {class : ℕ} {words₀ : List ℕ} where
  pub words-start : Stating table shape class words₀ words₀ shape.inputs
  words-start = record { from_inputs = omega arith; to_nets = from-inputs s; kept = kept-start; right = λ N tests n c b y. y }

  module _ {words : List ℕ} {net : ℕ} (x : Stating table shape class words₀ words net) where
    module _ (t : net < shape.nets) {g : Gate} (i : GateIs table net g) {scan : PinScan} (k : PinsScanned table g words scan) {live : Live} {rising_rows falling_rows : List ℕ}
        (a : ActiveBoth (class_of class) table g scan words rising_rows falling_rows live) {state : NetState} (v : StateIs g.kind scan live state)
        {words' : List ℕ} (p : NetPut net state words words') where
      net-low : net < 512
      net-low = omega (arith, few-nets s)

      module _ {N : Netlist} {tests : ℕ → Test} {n : ℕ} (c : CircuitTable N table shape.inputs shape.nets) (b : BlockOf tests (class_of class) n)
          (y : NetsStated N tests n net words) where
        low : N.inputs ≤ net
        low = omega (arith, c.inputs_are, x.from_inputs)

        high : net < nets N
        high = omega (arith, c.nets_are)

        opened : (q : ℕ) → q < length (pins_of N net) → WordIs (a.opens q) (λ u. open_pin N (tests u) net q) n
        opened = open_true (well c) low high (c.rows net low high) i tests n b.few y.states b {scan = scan} k.last k.unsteady a.opened

        states-more : NetsStated N tests n (net + 1) words'
        states-more =
            let w = well c in
            let row = c.rows net low high in
            let few = b.few in
            record {
              states = record {
                first = record {
                  words = plane-more p net-low 0 (omega arith) (ap (λ j. get_or words' j 0) (add-zero (8 * net)) ∙ p.first)
                      (λ j q. WordIs q (λ u. (evaluated N (tests u) j).under_v1) n)
                      (value-first w low high row i tests n few y.states.first k.first v.first) y.states.first.words;
                };
                last = record {
                  words = plane-more p net-low 1 (omega arith) p.last (λ j q. WordIs q (λ u. (evaluated N (tests u) j).under_v2) n)
                      (value-last w low high row i tests n few y.states.last k.last v.last) y.states.last.words;
                };
                steady = record {
                  words = plane-more p net-low 2 (omega arith) p.steady (λ j q. WordIs q (λ u. (evaluated N (tests u) j).steady) n)
                      (steady-true w low high row i tests n few y.states k.unsteady k.steady_controlling_of v.steady) y.states.steady.words;
                };
              };
              rises = record {
                words = plane-more p net-low 3 (omega arith) (p.rises ∙ v.rises) (λ j q. WordIs q (λ u. live_net (case_of N (tests u) rising) j) n)
                    (live-true w low high row i opened y.rises a.rises) y.rises.words;
              };
              falls = record {
                words = plane-more p net-low 4 (omega arith) (p.falls ∙ v.falls) (λ j q. WordIs q (λ u. live_net (case_of N (tests u) falling) j) n)
                    (live-true w low high row i opened y.falls a.falls) y.falls.words;
              };
            }

      pub words_step : Stating table shape class words₀ words' (net + 1)
      words_step = record {
        from_inputs = omega (arith, x.from_inputs);
        to_nets = omega arith;
        kept = kept_more p net-low x.kept;
        right = λ N tests n c b y. states-more c b (x.right N tests n c b y);
      }

    pub words-end : shape.nets ≤ net → GatesStated table shape class words₀ words
    words-end h =
        let e : net ≡ shape.nets = omega (arith, x.to_nets) in
        record { kept = x.kept; right = λ N tests n c b y. subst (λ m. NetsStated N tests n m words) e (x.right N tests n c b y) }
