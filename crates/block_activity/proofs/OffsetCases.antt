-- The path offsets of pins and outputs, one after the other.
use Rattle.model.proofs.Prelude.{ℕ, ◌≤◌, ◌<◌, ◌+◌, ◌-◌, ◌*◌, ◌^◌, ◌≡◌, ◌∙◌, ap, sym, subst, ap₂, inl, List, length, get_or, drop, take, set, length-set}
use Rattle.model.proofs.Prelude.{get_or-set_same, get_or-set_other, add-one, arith, rules}
use Rattle.model.specs.Netlist.{output_count}
use Rattle.netlist.specs.Tables.{output_in, output_at}
use Rattle.netlist.proofs.OutputLaws.{output-here, output-long}
use Rattle.block_words.specs.Words.{Filled}
use Rattle.block_activity.specs.OffsetParts.{paths_to, pins_at, pin_paths, GateFits, PinsPlaced, GatesFit, GatesPlaced, output_paths, OutputsFit, OutputsPlaced}
use Rattle.block_activity.proofs.OneMoreLaws.{one_more, fill_more}
use Rattle.block_activity.specs.Layout.{offset_table_size, output_offsets_at, output_nets_at}

paths-next : (f : ℕ → ℕ) (p : ℕ) → paths_to f (p + 1) ≡ paths_to f p + f p
paths-next f p = ap (paths_to f) (add-one p)

-- ---- the pins of a gate

-- the first p of its pins have their offsets, and `offset` is their paths together
pub record PinsDone (counts table : List ℕ) (net pins : ℕ) (before after : List ℕ) (offset p : ℕ) : Type 0 where
  pub pins_are : pins ≡ pins_at table net
  pub within : p ≤ pins
  pub sum : offset ≡ paths_to (pin_paths counts table net) p
  pub filled : Filled (8 * net) p (λ q w. w ≡ paths_to (pin_paths counts table net) q) before after

module _ {counts table : List ℕ} {net : ℕ} (f : GateFits counts table net) {pins : ℕ} (ep : pins ≡ pins_at table net) where
  module _ {before after : List ℕ} {offset p : ℕ} (d : PinsDone counts table net pins before after offset p) (l : p < pins) where
    pub pin-net : {at : ℕ} → at ≡ get_or table (8 * net + p) 0 → at < 512
    pin-net e = omega (arith, e, f.at_nets p (omega arith))

    pub pin-fits : {at : ℕ} → at ≡ get_or table (8 * net + p) 0 → offset + get_or counts at 0 < 2 ^ 64
    pin-fits e =
        let w : get_or counts _ 0 ≡ pin_paths counts table net p = ap (λ i. get_or counts i 0) e in
        omega (arith, w, d.sum, paths-next (pin_paths counts table net) p, f.fits (p + 1) (omega arith))

    pub pins-more : length before ≡ offset_table_size → {at : ℕ} → at ≡ get_or table (8 * net + p) 0
        → PinsDone counts table net pins before (set after (8 * net + p) offset) (offset + get_or counts at 0) (p + 1)
    pins-more room e = record {
      pins_are = ep;
      within = omega arith;
      sum = ap₂ (λ x y. x + y) d.sum (ap (λ i. get_or counts i 0) e) ∙ sym (paths-next (pin_paths counts table net) p);
      filled = fill_more d.filled (omega (arith, room, ep, f.few_pins, f.is_net)) offset d.sum;
    }

  pub pins-all : {before after : List ℕ} {offset p : ℕ} → PinsDone counts table net pins before after offset p → pins ≤ p → PinsPlaced counts table net before after
  pins-all {before} {after} {offset} {p} d l =
      let e : p ≡ pins_at table net = omega (arith, d.within) in
      subst (λ n. Filled (8 * net) n (λ q w. w ≡ paths_to (pin_paths counts table net) q) before after) e d.filled

-- ---- the pins of all gates

-- the gates before `net` have their offsets
pub record GatesDone (counts table : List ℕ) (low : ℕ) (offsets : List ℕ) (net : ℕ) : Type 0 where
  pub from : low ≤ net
  pub placed : GatesPlaced counts table low net offsets

module _ {counts table : List ℕ} {low high : ℕ} (f : GatesFit counts table low high) {offsets : List ℕ} {net : ℕ} (d : GatesDone counts table low offsets net) where
  pub gate-fits : net < high → GateFits counts table net
  gate-fits l = f.each net d.from l

  pub gates-more : net < high → {after : List ℕ} → PinsPlaced counts table net offsets after → GatesDone counts table low after (net + 1)
  gates-more l {after} x = record {
    from = omega (arith, d.from);
    placed = record {
      room = x.same_length_of ∙ d.placed.room;
      each = λ i p a b h. one_more (λ i. low ≤ i → (p : ℕ) → p < pins_at table i → get_or after (8 * i + p) 0 ≡ paths_to (pin_paths counts table i) p) net
          (λ i b a p h. x.same (8 * i + p) (inl (before i p b (few i a b) h)) ∙ d.placed.each i p a b h)
          (λ a p h. x.each p h)
          i b a p h;
    };
  }
    where
      few : (i : ℕ) → low ≤ i → i < net → pins_at table i ≤ 8
      few i a b = (f.each i a (omega arith)).few_pins

      before : (i p : ℕ) → i < net → pins_at table i ≤ 8 → p < pins_at table i → 8 * i + p < 8 * net
      before i p b c h = omega arith

  pub gates-all : high ≤ net → GatesPlaced counts table low high offsets
  gates-all l = record { room = d.placed.room; each = λ i p a b h. d.placed.each i p a (omega arith) h }

-- ---- the outputs

-- the first o of them have their offsets, and `offset` is their paths together
pub record OutputsDone (part : List ℕ) (inputs outputs : ℕ) (counts before after : List ℕ) (offset o : ℕ) : Type 0 where
  pub within : o ≤ outputs
  pub sum : offset ≡ paths_to (output_paths part inputs counts) o
  pub placed : OutputsPlaced part inputs o counts before after

module _ {part : List ℕ} {inputs outputs : ℕ} {counts : List ℕ} (f : OutputsFit part inputs outputs counts)
    {before after : List ℕ} {offset o : ℕ} (d : OutputsDone part inputs outputs counts before after offset o) where
  pub output-inside : o < outputs → 4 ≤ length (take (length part - 4 * o) (drop (4 * o) part))
  output-inside l = output-long part o outputs f.inside l

  pub outputs-all : outputs ≤ o → OutputsPlaced part inputs outputs counts before after
  outputs-all l =
      let e : o ≡ outputs = omega (arith, d.within) in
      subst (λ n. OutputsPlaced part inputs n counts before after) e d.placed

  module _ (l : o < outputs) {net : ℕ} (en : net ≡ output_in (take (length part - 4 * o) (drop (4 * o) part))) where
    net-is : net ≡ output_at part o
    net-is = output-here part o net en

    pub output-net : net < 512
    output-net = omega (arith, net-is, f.at_nets o l)

    module _ {paths : ℕ} (e : paths ≡ output_count inputs counts net) where
      paths-is : paths ≡ output_paths part inputs counts o
      paths-is = e ∙ ap (output_count inputs counts) net-is

      pub output-fits : offset + paths < 2 ^ 64
      output-fits = omega (arith, paths-is, d.sum, paths-next (output_paths part inputs counts) o, f.fits (o + 1) (omega arith))

      pub outputs-more : length before ≡ offset_table_size
          → OutputsDone part inputs outputs counts before (set (set after (output_offsets_at + o) offset) (output_nets_at + o) net) (offset + paths) (o + 1)
      outputs-more room = record {
        within = omega arith;
        sum = ap₂ (λ x y. x + y) d.sum paths-is ∙ sym (paths-next (output_paths part inputs counts) o);
        placed = record {
          same_length_of = length-set (set after (output_offsets_at + o) offset) (output_nets_at + o) net ∙ length-set after (output_offsets_at + o) offset ∙ d.placed.same_length_of;
          same = λ i h. old i (λ q. omega arith) (λ q. omega arith) ∙ d.placed.same i h;
          offsets = one_more (λ i. get_or next (output_offsets_at + i) 0 ≡ paths_to (output_paths part inputs counts) i) o
              (λ i h. old (output_offsets_at + i) (λ q. omega arith) (λ q. apart (output_offsets_at + i) (output_nets_at + o) (omega (arith, few)) q) ∙ d.placed.offsets i h)
              (get_or-set_other (set after (output_offsets_at + o) offset) (output_nets_at + o) (output_offsets_at + o) net 0 (λ q. omega arith)
              ∙ get_or-set_same after (output_offsets_at + o) offset 0 (omega (arith, long)) ∙ d.sum);
          nets = one_more (λ i. get_or next (output_nets_at + i) 0 ≡ output_at part i) o
              (λ i h. old (output_nets_at + i) (λ q. omega (arith, few)) (λ q. omega arith) ∙ d.placed.nets i h)
              (get_or-set_same (set after (output_offsets_at + o) offset) (output_nets_at + o) net 0 (omega (arith, length-set after (output_offsets_at + o) offset, long)) ∙ net-is);
        };
      }
        where
          next : List ℕ
          next = set (set after (output_offsets_at + o) offset) (output_nets_at + o) net

          few : o < 64
          few = omega (arith, f.few)

          long : length after ≡ offset_table_size
          long = d.placed.same_length_of ∙ room

          apart : (i j : ℕ) → i < j → i ≡ j → ⊥
          apart i j h e = omega arith

          old : (i : ℕ) → (i ≡ output_offsets_at + o → ⊥) → (i ≡ output_nets_at + o → ⊥) → get_or next i 0 ≡ get_or after i 0
          old i a b = get_or-set_other (set after (output_offsets_at + o) offset) (output_nets_at + o) i net 0 b ∙ get_or-set_other after (output_offsets_at + o) i offset 0 a

pub ruleset pin-cases = (pin-net, pin-fits, pins-more, pins-all, rules)

pub ruleset gate-offsets-cases = (gate-fits, gates-more, gates-all, rules)

pub ruleset output-offsets-cases = (output-inside, output-net, output-fits, outputs-more, outputs-all, rules)
