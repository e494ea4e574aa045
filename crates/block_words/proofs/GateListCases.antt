-- The words of the nets and the lists of live gates, net by net.
use Rattle.model.proofs.Prelude.{ℕ, ◌≤◌, ◌<◌, ◌+◌, ◌-◌, ◌*◌, ◌≡◌, ◌∙◌, ap, refl, sym, subst, Bool, List, length, get_or, add-zero, arith}
use Rattle.model.specs.Base.{bit, numbers_from}
use Rattle.model.specs.Netlist.{Netlist, nets, pins_of}
use Rattle.model.specs.Path.{Edge, rising, falling}
use Rattle.model.specs.Detect.{Test, open_pin}
use Rattle.model.specs.Read.{kind_of, class_of}
use Rattle.netlist.specs.declared.inner.Shape.{Shape}
use Rattle.block_words.specs.Words.{WordIs, words_at, noncontrolling_mask_of, GateIs, PinsIn}
use Rattle.block_words.specs.Table.{CircuitTable, SomeTable}
use Rattle.detection.specs.Cases.{case_of}
use Rattle.block_words.specs.Block.{live_net, evaluated, BlockOf}
use Rattle.block_words.specs.Lists.{live_entries, entry_of, ListRoom, EmptyLists, ListsTrue, Pushed}
use Rattle.block_words.specs.NetStates.{PinsScanned, ActiveBoth, StateIs, NetPut, StatesKept, NetsStated, GatesListed}
use Rattle.block_words.specs.declared.inner.gates.Gate.{Gate}
use Rattle.block_words.specs.declared.inner.gates.PinScan.{PinScan}
use Rattle.block_words.specs.declared.inner.robust.Live.{Live}
use Rattle.block_words.specs.declared.inner.words.NetState.{NetState}
use Rattle.block_words.proofs.PushCases.{at_most_one}
use Rattle.block_words.proofs.GateTableLaws.{few-nets, from-inputs, well, gate-pins, low-kind, high-kind}
use Rattle.block_words.proofs.BlockNetLaws.{value-first, value-last, steady-true, open_true}
use Rattle.block_words.proofs.NetPutLaws.{kept-start, kept_more, plane-more}
use Rattle.block_words.proofs.LiveEntryLaws.{ListedTo, live-true, listed_more}
use Rattle.block_words.specs.Layout.{list_size, lists_size, nets_size}

-- Lists of one edge: room, and at most so many entries in each
pub record ListsUpTo (most : ℕ) (list₀ list lens : List ℕ) : Type 0 where
  pub room : lists_size ≤ length list₀
  pub places : length list ≡ length list₀
  pub records : length lens ≡ 64
  pub counts : (t : ℕ) → t < 64 → get_or lens t 0 ≤ most

none-listed : {most : ℕ} {list lens : List ℕ} → EmptyLists list lens → ListsUpTo most list list lens
none-listed m = record { room = m.places; places = refl; records = m.records; counts = λ t h. omega (arith, m.empty t h) }

push_room : {most : ℕ} {list₀ list lens : List ℕ} → ListsUpTo most list₀ list lens → most < list_size → ListRoom list lens
push_room x h = record { places = omega (arith, x.room, x.places); records = x.records; one_more_of = λ t l. omega (arith, x.counts t l) }

pushed_more : {most next : ℕ} {list₀ list lens list' lens' : List ℕ} {b : ℕ → Bool} {entry : ℕ → ℕ} → ListsUpTo most list₀ list lens
    → Pushed list lens list' lens' b entry → most + 1 ≤ next → ListsUpTo next list₀ list' lens'
pushed_more {b = b} x p h = record {
  room = x.room;
  places = p.same_length_of ∙ x.places;
  records = p.same_records ∙ x.records;
  counts = λ t l. omega (arith, p.counts t l, x.counts t l, at_most_one (b t));
}

-- no gate is listed before the first
empty-listed : {N : Netlist} {tests : ℕ → Test} {e : Edge} {n inputs : ℕ} {list lens : List ℕ} → n ≤ 64 → inputs ≡ N.inputs → EmptyLists list lens
    → ListedTo N tests e n inputs list lens
unfolding live_entries
empty-listed {N} {tests} {e} {inputs = inputs} {list} few q m =
    let z : inputs - N.inputs ≡ 0 = omega arith in
    record {
      lists = λ t h.
          ap (λ k. words_at list (numbers_from (list_size * t) k)) (m.empty t (omega arith)) ∙ ap (λ k. live_entries (case_of N (tests t) e) k) (sym z);
    }

-- all gates are listed after the last
all_listed : {N : Netlist} {tests : ℕ → Test} {e : Edge} {n net : ℕ} {list lens : List ℕ} → net ≡ nets N → ListedTo N tests e n net list lens
    → ListsTrue N tests e n list lens
all_listed {N} {tests} {e} {net = net} q x =
    let z : net - N.inputs ≡ length N.gates = omega arith in
    record { lists = λ t h. x.lists t h ∙ ap (λ k. live_entries (case_of N (tests t) e) k) z }

-- the nets before `net` are done
pub record Listing (table : List ℕ) (shape : Shape) (class : ℕ)
    (words₀ words risingLists₀ risingLists risingLens fallingLists₀ fallingLists fallingLens : List ℕ) (net : ℕ) : Type 0 where
  pub from_inputs : shape.inputs ≤ net
  pub to_nets : net ≤ shape.nets
  pub room : nets_size ≤ length words₀
  pub kept : StatesKept words₀ words
  pub up : ListsUpTo (net - shape.inputs) risingLists₀ risingLists risingLens
  pub down : ListsUpTo (net - shape.inputs) fallingLists₀ fallingLists fallingLens
  pub right : (N : Netlist) (tests : ℕ → Test) (n : ℕ) → CircuitTable N table shape.inputs shape.nets → BlockOf tests (class_of class) n
      → NetsStated N tests n shape.inputs words₀
      → NetsStated N tests n net words × ListedTo N tests rising n net risingLists risingLens × ListedTo N tests falling n net fallingLists fallingLens

-- what the steps of the gate that drives `net` require
pub record GateKnown (table : List ℕ) (net : ℕ) (g : Gate) (words risingLists risingLens fallingLists fallingLens : List ℕ) : Type 0 where
  pub is_net : net < 512
  pub pins : PinsIn table g
  pub mask_is : g.noncontrolling_mask ≡ noncontrolling_mask_of (kind_of g.kind)
  pub low_kind : 1 ≤ g.kind
  pub high_kind : g.kind ≤ 8
  pub words_room : nets_size ≤ length words
  pub rising_room : ListRoom risingLists risingLens
  pub falling_room : ListRoom fallingLists fallingLens

module _ {table : List ℕ} {shape : Shape} (s : SomeTable table shape.inputs shape.nets) {class : ℕ} {words₀ risingLists₀ fallingLists₀ : List ℕ} where
  pub lists-start : {risingLens fallingLens : List ℕ} → nets_size ≤ length words₀ → EmptyLists risingLists₀ risingLens → EmptyLists fallingLists₀ fallingLens
      → Listing table shape class words₀ words₀ risingLists₀ risingLists₀ risingLens fallingLists₀ fallingLists₀ fallingLens shape.inputs
  lists-start r a b = record {
    from_inputs = omega arith;
    to_nets = from-inputs s;
    room = r;
    kept = kept-start;
    up = none-listed a;
    down = none-listed b;
    right = λ N tests n c f y. (y, empty-listed f.few c.inputs_are a, empty-listed f.few c.inputs_are b);
  }

  module _ {words risingLists risingLens fallingLists fallingLens : List ℕ} {net : ℕ}
      (x : Listing table shape class words₀ words risingLists₀ risingLists risingLens fallingLists₀ fallingLists fallingLens net) where
    pub gate-known : net < shape.nets → {g : Gate} → GateIs table net g → GateKnown table net g words risingLists risingLens fallingLists fallingLens
    gate-known t i = record {
      is_net = omega (arith, few-nets s);
      pins = gate-pins s x.from_inputs t i;
      mask_is = i.mask_is;
      low_kind = low-kind s x.from_inputs t i;
      high_kind = high-kind s x.from_inputs t i;
      words_room = omega (arith, x.room, x.kept.same_length_of);
      rising_room = push_room x.up (omega (arith, few-nets s));
      falling_room = push_room x.down (omega (arith, few-nets s));
    }

    -- one gate more: what its pins show, its active pins, its entries in the lists, the words of its net
    module _ (t : net < shape.nets) {g : Gate} (i : GateIs table net g) {scan : PinScan} (k : PinsScanned table g words scan) {live : Live} {rising_rows falling_rows : List ℕ}
        (a : ActiveBoth (class_of class) table g scan words rising_rows falling_rows live) {state : NetState} (v : StateIs g.kind scan live state)
        {words' : List ℕ} (p : NetPut net state words words') where
      net-low : net < 512
      net-low = omega (arith, few-nets s)

      -- in a netlist whose table it is, for a block of tests of the class
      module _ {N : Netlist} {tests : ℕ → Test} {n : ℕ} (c : CircuitTable N table shape.inputs shape.nets) (b : BlockOf tests (class_of class) n)
          (y : NetsStated N tests n net words) where
        low : N.inputs ≤ net
        low = omega (arith, c.inputs_are, x.from_inputs)

        high : net < nets N
        high = omega (arith, c.nets_are)

        opened : (q : ℕ) → q < length (pins_of N net) → WordIs (a.opens q) (λ u. open_pin N (tests u) net q) n
        opened = open_true (well c) low high (c.rows net low high) i tests n b.few y.states b {scan = scan} k.last k.unsteady a.opened

        states-more : NetsStated N tests n (net + 1) words'
        states-more =
            let w = well c in
            let row = c.rows net low high in
            let few = b.few in
            record {
              states = record {
                first = record {
                  words = plane-more p net-low 0 (omega arith) (ap (λ j. get_or words' j 0) (add-zero (8 * net)) ∙ p.first)
                      (λ j q. WordIs q (λ u. (evaluated N (tests u) j).under_v1) n)
                      (value-first w low high row i tests n few y.states.first k.first v.first) y.states.first.words;
                };
                last = record {
                  words = plane-more p net-low 1 (omega arith) p.last (λ j q. WordIs q (λ u. (evaluated N (tests u) j).under_v2) n)
                      (value-last w low high row i tests n few y.states.last k.last v.last) y.states.last.words;
                };
                steady = record {
                  words = plane-more p net-low 2 (omega arith) p.steady (λ j q. WordIs q (λ u. (evaluated N (tests u) j).steady) n)
                      (steady-true w low high row i tests n few y.states k.unsteady k.steady_controlling_of v.steady) y.states.steady.words;
                };
              };
              rises = record {
                words = plane-more p net-low 3 (omega arith) (p.rises ∙ v.rises) (λ j q. WordIs q (λ u. live_net (case_of N (tests u) rising) j) n)
                    (live-true w low high row i opened y.rises a.rises) y.rises.words;
              };
              falls = record {
                words = plane-more p net-low 4 (omega arith) (p.falls ∙ v.falls) (λ j q. WordIs q (λ u. live_net (case_of N (tests u) falling) j) n)
                    (live-true w low high row i opened y.falls a.falls) y.falls.words;
              };
            }

      pub lists-step : {risingLists' risingLens' fallingLists' fallingLens' : List ℕ}
          → Pushed risingLists risingLens risingLists' risingLens' (λ u. bit live.up u) (entry_of net rising_rows g.pins)
          → Pushed fallingLists fallingLens fallingLists' fallingLens' (λ u. bit live.down u) (entry_of net falling_rows g.pins)
          → Listing table shape class words₀ words' risingLists₀ risingLists' risingLens' fallingLists₀ fallingLists' fallingLens' (net + 1)
      lists-step f h = record {
        from_inputs = omega (arith, x.from_inputs);
        to_nets = omega arith;
        room = x.room;
        kept = kept_more p net-low x.kept;
        up = pushed_more x.up f (omega (arith, x.from_inputs));
        down = pushed_more x.down h (omega (arith, x.from_inputs));
        right = λ N tests n c b y.
            let z = x.right N tests n c b y in
            let w = well c in
            let from = low c b z.0 in
            let to = high c b z.0 in
            let row = c.rows net from to in
            let o = opened c b z.0 in (
              states-more c b z.0,
              listed_more w from to row i o z.0.rises a.rises b.few f z.1,
              listed_more w from to row i o z.0.falls a.falls b.few h z.2,
            );
      }

    pub lists-end : shape.nets ≤ net → GatesListed table shape class words₀ words risingLists₀ risingLists risingLens fallingLists₀ fallingLists fallingLens
    lists-end h =
        let e : net ≡ shape.nets = omega (arith, x.to_nets) in
        record {
          kept = x.kept;
          up_places = x.up.places;
          down_places = x.down.places;
          up_records = x.up.records;
          down_records = x.down.records;
          up_counts = λ t l. omega (arith, x.up.counts t l, x.to_nets, few-nets s);
          down_counts = λ t l. omega (arith, x.down.counts t l, x.to_nets, few-nets s);
          right = λ N tests n c b y.
              let z = x.right N tests n c b y in
              (subst (λ m. NetsStated N tests n m words) e z.0, all_listed (e ∙ c.nets_are) z.1, all_listed (e ∙ c.nets_are) z.2);
        }
