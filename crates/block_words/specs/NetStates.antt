-- The words of the nets in a block of records, and what one pass over the gates leaves in them and in the lists.
use Rattle.std.specs.Prelude.{◌≡◌, true, ◌&&◌, ◌||◌, not, List, map, ◌⊎◌, ℕ, ◌+◌, ◌-◌, ◌*◌, ◌^◌, ◌≤◌, ◌<◌, T, length, get_or}
use Rattle.std.specs.Bool.{beq}
use Rattle.model.specs.Base.{any_of, bit, numbers_from}
use Rattle.model.specs.Netlist.{Netlist}
use Rattle.model.specs.Path.{rising, falling}
use Rattle.model.specs.Detect.{Class, Test, Evaluation, no_evaluation, is_open}
use Rattle.model.specs.Read.{pins_fit, kind_of, class_of}
use Rattle.netlist.specs.declared.inner.Shape.{Shape}
use Rattle.block_words.specs.Words.{WordIs, bits_at, first_words, unequal, noncontrolling_mask_of, pin_word, TallyAt, TallyIs, ValueIs}
use Rattle.block_words.specs.Robust.{evaluation_at, SteadyControllingIs, SteadyIs}
use Rattle.block_words.specs.Table.{CircuitTable}
use Rattle.block_words.specs.Block.{BlockOf, StateWords, LiveWords}
use Rattle.block_words.specs.Lists.{ListsTrue}
use Rattle.block_words.specs.declared.inner.gates.Gate.{Gate}
use Rattle.block_words.specs.declared.inner.gates.PinTally.{PinTally}
use Rattle.block_words.specs.declared.inner.gates.PinScan.{PinScan}
use Rattle.block_words.specs.declared.inner.robust.Live.{Live}
use Rattle.block_words.specs.declared.inner.words.NetState.{NetState}
use Rattle.block_words.specs.Layout.{nets_size}

-- the words of net n stand from place 8 n on: one of them for each of 512 nets
abbrev pub plane : ℕ → List ℕ → List ℕ
plane i words = map (λ net. get_or words (8 * net + i) 0) (numbers_from 0 512)

abbrev pub v1_words : List ℕ → List ℕ
v1_words = plane 0

abbrev pub v2_words : List ℕ → List ℕ
v2_words = plane 1

abbrev pub steady_words : List ℕ → List ℕ
steady_words = plane 2

abbrev pub rise_words : List ℕ → List ℕ
rise_words = plane 3

abbrev pub fall_words : List ℕ → List ℕ
fall_words = plane 4

-- what one pin more shows
pub record PinAdded (tally : PinTally) (mask value : ℕ) (r : PinTally) : Type 0 where
  pub ones : (t : ℕ) → bit r.one t ≡ (bit tally.one t || unequal (bit mask t) (bit value t))
  pub twos : (t : ℕ) → bit r.two t ≡ (bit tally.two t || (bit tally.one t && unequal (bit mask t) (bit value t)))
  pub parities : (t : ℕ) → bit r.parity t ≡ unequal (bit tally.parity t) (bit value t)

-- what all pins of a gate show
pub record PinsScanned (table : List ℕ) (g : Gate) (words : List ℕ) (r : PinScan) : Type 0 where
  pub first : TallyIs table g g.noncontrolling_mask (v1_words words) r.first
  pub last : TallyIs table g g.noncontrolling_mask (v2_words words) r.last
  pub unsteady : TallyIs table g (2 ^ 64 - 1) (steady_words words) r.unsteady
  pub steady_controlling_of : SteadyControllingIs table g (v2_words words) (steady_words words) r.steady_controlling

-- the open word of a pin in a class, whatever the nets at the gate's pins
pub record PinOpenIs (c : Class) (kind : ℕ) (scan : PinScan) (v1 v2 steady r : ℕ) : Type 0 where
  pub at : (ns : List Evaluation) (p t : ℕ) → t < 64 → p < length ns → T (pins_fit kind (length ns))
      → TallyAt (map (λ n. n.under_v2) ns) (bit (noncontrolling_mask_of (kind_of kind)) t) scan.last t → TallyAt (map (λ n. n.steady) ns) true scan.unsteady t
      → evaluation_at v1 v2 steady t ≡ get_or ns p no_evaluation → bit r t ≡ is_open c (kind_of kind) ns p

-- a pin is active for an edge where it is open and its net live; the gate is live where one pin or more is active
pub record EdgeActive (table : List ℕ) (g : Gate) (opens : ℕ → ℕ) (live rows : List ℕ) (r : ℕ) : Type 0 where
  pub room : length rows ≡ 8
  pub each : (p : ℕ) → p < g.pins → (t : ℕ) → bit (get_or rows p 0) t ≡ (bit (opens p) t && bit (pin_word table g live p) t)
  pub some : (t : ℕ) → bit r t ≡ any_of (λ v. v) (bits_at (first_words rows g.pins) t)

pub record ActiveBoth (c : Class) (table : List ℕ) (g : Gate) (scan : PinScan) (words rising_rows falling_rows : List ℕ) (r : Live) : Type 0 where
  pub opens : ℕ → ℕ
  pub opened : (p : ℕ) → p < g.pins
      → PinOpenIs c g.kind scan (pin_word table g (v1_words words) p) (pin_word table g (v2_words words) p) (pin_word table g (steady_words words) p) (opens p)
  pub rises : EdgeActive table g opens (rise_words words) rising_rows r.up
  pub falls : EdgeActive table g opens (fall_words words) falling_rows r.down

-- the words of a gate's net, from what its pins show
pub record StateIs (kind : ℕ) (scan : PinScan) (live : Live) (r : NetState) : Type 0 where
  pub first : ValueIs kind scan.first.one scan.first.parity r.first
  pub last : ValueIs kind scan.last.one scan.last.parity r.last
  pub steady : SteadyIs kind scan.unsteady.one scan.steady_controlling r.steady
  pub rises : r.rises ≡ live.up
  pub falls : r.falls ≡ live.down

-- the words of one net are written
pub record NetPut (net : ℕ) (s : NetState) (before after : List ℕ) : Type 0 where
  pub same_length_of : length after ≡ length before
  pub others : (i : ℕ) → (i < 8 * net) ⊎ (8 * net + 5 ≤ i) → get_or after i 0 ≡ get_or before i 0
  pub first : get_or after (8 * net) 0 ≡ s.first
  pub last : get_or after (8 * net + 1) 0 ≡ s.last
  pub steady : get_or after (8 * net + 2) 0 ≡ s.steady
  pub rises : get_or after (8 * net + 3) 0 ≡ s.rises
  pub falls : get_or after (8 * net + 4) 0 ≡ s.falls

-- of the memory lent for the words of the nets, what stands past those of 512 nets is as before
pub record StatesKept (before after : List ℕ) : Type 0 where
  pub same_length_of : length after ≡ length before
  pub past : (i : ℕ) → nets_size ≤ i → get_or after i 0 ≡ get_or before i 0

-- the words of the inputs of n records, from their words under V1 and V2
pub record InputWords (firsts lasts : List ℕ) (inputs n : ℕ) (before after : List ℕ) : Type 0 where
  pub kept : StatesKept before after
  pub first : (j : ℕ) → j < inputs → get_or after (8 * j) 0 ≡ get_or firsts j 0
  pub last : (j : ℕ) → j < inputs → get_or after (8 * j + 1) 0 ≡ get_or lasts j 0
  pub steady : (j : ℕ) → j < inputs → WordIs (get_or after (8 * j + 2) 0) (λ t. beq (bit (get_or firsts j 0) t) (bit (get_or lasts j 0) t)) 64
  pub rises : (j : ℕ) → j < inputs → WordIs (get_or after (8 * j + 3) 0) (λ t. not (bit (get_or firsts j 0) t) && bit (get_or lasts j 0) t) n
  pub falls : (j : ℕ) → j < inputs → WordIs (get_or after (8 * j + 4) 0) (λ t. not (bit (get_or lasts j 0) t) && bit (get_or firsts j 0) t) n

-- the words of the nets below `top` are right: what evaluating a net yields, and where it is live for each edge
pub record NetsStated (N : Netlist) (tests : ℕ → Test) (n top : ℕ) (words : List ℕ) : Type 0 where
  pub states : StateWords N tests n top (v1_words words) (v2_words words) (steady_words words)
  pub rises : LiveWords N tests rising n top (rise_words words)
  pub falls : LiveWords N tests falling n top (fall_words words)

-- what one pass over the gates leaves: the words of all nets, and for each edge the list of each record's live gates
pub record GatesListed (table : List ℕ) (shape : Shape) (class : ℕ) (words₀ words risingLists₀ risingLists risingLens fallingLists₀ fallingLists fallingLens : List ℕ) : Type 0 where
  pub kept : StatesKept words₀ words
  pub up_places : length risingLists ≡ length risingLists₀
  pub down_places : length fallingLists ≡ length fallingLists₀
  pub up_records : length risingLens ≡ 64
  pub down_records : length fallingLens ≡ 64
  pub up_counts : (t : ℕ) → t < 64 → get_or risingLens t 0 ≤ 512
  pub down_counts : (t : ℕ) → t < 64 → get_or fallingLens t 0 ≤ 512
  pub right : (N : Netlist) (tests : ℕ → Test) (n : ℕ) → CircuitTable N table shape.inputs shape.nets → BlockOf tests (class_of class) n
      → NetsStated N tests n shape.inputs words₀
      → NetsStated N tests n shape.nets words × ListsTrue N tests rising n risingLists risingLens × ListsTrue N tests falling n fallingLists fallingLens
