-- The cases of the walk: the word so far together with what is open from the net at hand on is what is open from the first net on.
use Rattle.model.proofs.Prelude.{ℕ, ◌≤◌, ◌<◌, ◌+◌, ◌*◌, ◌≡◌, ◌∙◌, ap, refl, sym, subst, true, Bool, false, ◌&&◌, List, length, get_or, T, arith, rules}
use lib.Bits.{bit_and}
use Rattle.model.specs.Base.{bit, sum_of}
use Rattle.model.specs.Netlist.{Netlist, counts, pins_of, pin_net}
use Rattle.model.specs.Path.{Edge, path_at}
use Rattle.model.specs.Detect.{Test, all_open, open_pin, has_edge, in_net_set}
use Rattle.model.specs.Read.{class_of}
use Rattle.model.proofs.AnswerLaws.{value_inj}
use Rattle.model.proofs.ListLaws.{any_of_lem}
use Rattle.model.proofs.ReadLaws.{legal}
use Rattle.model.proofs.WellFormed.{WellFormed}
use Rattle.record_bytes.proofs.BitLaws.{and_bit}
use Rattle.netlist.specs.Tables.{CircuitTables, SomeTables, gate_part_of}
use Rattle.netlist.specs.declared.inner.Shape.{Shape}
use Rattle.netlist.proofs.TableLaws.{gate-inside, few-nets, count_at}
use Rattle.path_step.specs.Picks.{PinsIn, pin_counts_in, pick_pin_of}
use Rattle.path_step.specs.declared.inner.pins.Pick.{Pick}
use Rattle.path_step.proofs.PinStepCases.{step-pins, step-number}
use Rattle.path_of_number.proofs.DescentCases.{pin-is, number_is, one, net-is, below, pick-low-number, pick-high-number}
use Rattle.path_of_number.proofs.PartialLaws.{path-step}
use Rattle.detection.specs.Cases.{case_of, in_set}
use Rattle.detection.proofs.TestCaseLaws.{case-set}
use Rattle.detection.proofs.SetLaws.{set-input}
use Rattle.block_words.specs.Block.{BlockOf, live_net, active_pin}
use Rattle.block_words.specs.NetStates.{NetsStated}
use Rattle.block_words.proofs.LiveLaws.{live-input}
use Rattle.block_words.proofs.PlaneLaws.{plane-at}
use Rattle.block_words.proofs.WordBitLaws.{ones-bits}
use Rattle.path_faults.specs.Answers.{model_edge}
use Rattle.path_faults.specs.declared.Edge as Code
use Rattle.block_detection.specs.PathWords.{live_at, PinThere, ActiveWord, WalkReady, PathWord}
use Rattle.block_detection.proofs.ActiveLaws.{live_of}

pub record Walked (file ps cs : List ℕ) (shape : Shape) (table words : List ℕ) (class : ℕ) (edge : Code.Edge) (net number at rest word : ℕ) : Type 0 where
  pub begun : WalkReady file ps cs shape table words net number
  pub high : at < shape.nets
  pub some : 1 ≤ rest
  pub small : rest ≤ get_or cs at 0
  pub whole : (tests : ℕ → Test) (n : ℕ) → BlockOf tests (class_of class) n → NetsStated begun.circuit tests n shape.nets words
      → (u : ℕ) → u < n
      → (bit word u && in_net_set begun.circuit (tests u) (model_edge edge) at rest)
      ≡ in_net_set begun.circuit (tests u) (model_edge edge) net number

-- a pin that is open, at a net that is live because the rest of the path is open
absorb : (a o l s : Bool) → (T s → T l) → (a && (o && l)) && s ≡ a && (o && s)
absorb true true true s h = refl
absorb true true false true h = absurd (h tt)
absorb true true false false h = refl
absorb true false l s h = refl
absorb false o l s h = refl

module _ {file ps cs : List ℕ} {shape : Shape} {table words : List ℕ} {class : ℕ} {edge : Code.Edge} {net number : ℕ} where
  pub walk_start : WalkReady file ps cs shape table words net number
      → Walked file ps cs shape table words class edge net number net number 18446744073709551615
  walk_start r = record {
    begun = r;
    high = r.high;
    some = r.some;
    small = r.small;
    whole = λ tests n b y u h.
        let q : bit 18446744073709551615 u ≡ true = ones-bits 64 u (omega (arith, b.few)) in
        ap (λ v. v && in_net_set r.circuit (tests u) (model_edge edge) net number) q;
  }

  module _ {at rest word : ℕ} (d : Walked file ps cs shape table words class edge net number at rest word) where
    abbrev N : Netlist
    N = d.begun.circuit

    abbrev t : CircuitTables N file ps cs shape
    t = d.begun.tables

    w : WellFormed N
    w = legal file N t.legal

    known-tables : SomeTables file ps cs shape
    known-tables = record { circuit = N; tables = t }

    pub walk-few : at < 512
    walk-few = omega (arith, few-nets t, d.high)

    pub walk-room : 4096 ≤ length words
    walk-room = d.begun.room

    -- At a gate
    module _ (low : shape.inputs ≤ at) where
      pub walk_inside : get_or ps at 0 ≤ length file
      walk_inside = gate-inside t at low d.high

      module _ (part : List ℕ) (ep : part ≡ gate_part_of file ps at) where
        pub walk-pins : PinsIn part
        walk-pins = step-pins file ps cs shape known-tables at d.high low part ep

        pub walk-number : rest ≤ sum_of (pin_counts_in part cs)
        walk-number = step-number file ps cs shape known-tables at d.high low part ep rest d.small

        module _ (p : Pick) (e : p ≡ pick_pin_of part cs rest) where
          is_pin : p.pin < length (pins_of N at)
          is_pin = one file ps cs shape at rest d.high low d.some d.small part ep p e N t

          pub walk-there : PinThere table words shape at p.pin
          walk-there = record {
            known = record { circuit = N; is_in = d.begun.gates };
            low = low;
            high = d.high;
            is_pin = is_pin;
            room = d.begun.room;
          }

          pub walk-less : p.net < at
          walk-less = below file ps cs shape at rest d.high low d.some d.small part ep p e N t

          there : p.net ≡ pin_net N at p.pin
          there =
              net-is file ps cs shape at rest d.high low d.some d.small part ep p e N t
              ∙ ap (pin_net N at) (sym (pin-is file ps cs shape at rest d.high low d.some d.small part ep p e N t))

          step : (x : Test) (g : Edge) → in_net_set N x g at rest ≡ open_pin N x at p.pin && in_net_set N x g p.net p.number
          unfolding in_net_set all_open
          step x g =
              let pin = pin-is file ps cs shape at rest d.high low d.some d.small part ep p e N t in
              let number = number_is file ps cs shape at rest d.high low d.some d.small part ep p e N t in
              let net = net-is file ps cs shape at rest d.high low d.some d.small part ep p e N t in
              let path = path-step N w at rest (omega (arith, t.inputs_are)) (omega (arith, t.nets_are, d.high)) d.some
              (omega (arith, d.small, count_at t at d.high)) in
              ap (all_open N (open_pin N x) (has_edge x g) at) path
              ∙ sym (λ k. open_pin N x at (pin k) && all_open N (open_pin N x) (has_edge x g) (net k) (path_at N (net k) (net k) (number k)))

          next-high : p.net < shape.nets
          next-high = omega (arith, walk-less, d.high)

          next-some : 1 ≤ p.number
          next-some = pick-low-number file ps cs shape at rest d.high low d.some d.small part ep p e known-tables

          next_small : p.number ≤ get_or cs p.net 0
          next_small = pick-high-number file ps cs shape at rest d.high low d.some d.small part ep p e known-tables

          -- where the rest of the path is open its net is live
          live-there : (x : Test) (g : Edge) → T (in_net_set N x g p.net p.number) → T (live_net (case_of N x g) p.net)
          unfolding live_net in_set in_net_set
          live-there x g =
              any_of_lem (in_net_set N x g p.net) (get_or (counts N) p.net 0) 1 p.number next-some
              (omega (arith, next_small, count_at t p.net next-high))

          module _ (active : ℕ) (a : ActiveWord table words shape class (model_edge edge) at p.pin active) where
            pub walk-next : Walked file ps cs shape table words class edge net number p.net p.number (bit_and word active)
            unfolding active_pin
            walk-next = record {
              begun = d.begun;
              high = next-high;
              some = next-some;
              small = next_small;
              whole = λ tests n b y u h.
                  let g : Edge = model_edge edge in
                  let o : Bool = open_pin N (tests u) at p.pin in
                  let s : Bool = in_net_set N (tests u) (model_edge edge) p.net p.number in
                  let bits : bit (bit_and word active) u
                  ≡ (bit word u && (open_pin N (tests u) at p.pin && live_net (case_of N (tests u) (model_edge edge)) p.net)) =
                  and_bit word active u
                  ∙ ap (λ v. bit word u && v)
                  (a.right N tests n d.begun.gates b y is_pin u h
                  ∙ ap (λ k. open_pin N (tests u) at p.pin && live_net (case_of N (tests u) (model_edge edge)) k) (sym there)) in
                  ap (λ v. v && in_net_set N (tests u) (model_edge edge) p.net p.number) bits
                  ∙ absorb (bit word u) (open_pin N (tests u) at p.pin) (live_net (case_of N (tests u) (model_edge edge)) p.net)
                  (in_net_set N (tests u) (model_edge edge) p.net p.number) (live-there (tests u) (model_edge edge))
                  ∙ ap (λ v. bit word u && v) (sym (step (tests u) (model_edge edge)))
                  ∙ d.whole tests n b y u h;
            }

    -- At an input
    module _ (input : at < shape.inputs) (live : ℕ) (el : live ≡ get_or words (8 * at + live_at (model_edge edge)) 0) where
      pub walk_end : PathWord file ps cs shape words class (model_edge edge) net number (bit_and word live)
      walk_end = record {
        right = λ M tests n u b y v h.
            let same : M ≡ N = value_inj (sym u.legal ∙ t.legal) in
            let z : NetsStated N tests n shape.nets words = subst (λ (K : Netlist). NetsStated K tests n shape.nets words) same y in
            let g : Edge = model_edge edge in
            let i : at < N.inputs = omega (arith, t.inputs_are) in
            let is_live : bit live v ≡ in_net_set N (tests v) (model_edge edge) at rest =
            ap (λ k. bit k v) (el ∙ sym (plane-at (live_at (model_edge edge)) at words walk-few))
            ∙ (live_of z (model_edge edge)).words at d.high v h
            ∙ live-input (case_of N (tests v) (model_edge edge)) w at i
            ∙ sym (set-input (case_of N (tests v) (model_edge edge)) w at rest i) ∙ case-set N (tests v) (model_edge edge) at rest in
            and_bit word live v ∙ ap (λ x. bit word v && x) is_live ∙ d.whole tests n b z v h
            ∙ ap (λ (K : Netlist). in_net_set K (tests v) (model_edge edge) net number) (sym same);
      }

pub ruleset walk-cases = (walk_start, walk-few, walk-room, walk_inside, walk-pins, walk-number, walk-there, walk-less, walk-next, walk_end, rules)
