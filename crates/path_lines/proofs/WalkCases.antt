-- The walk along a path's gates: what is put so far, with the lines of the gates that are left, is the whole text.
use Rattle.model.proofs.Prelude.{ℕ, ◌≤◌, ◌<◌, ◌+◌, ◌-◌, ◌*◌, ◌≡◌, ◌∙◌, ap, refl, sym, subst, List, [], ◌∷◌, ◌++◌, append_assoc, length, get_or, drop}
use Rattle.model.proofs.Prelude.{take, drop-drop, get_or-drop, T, ltb→lt, arith, rules}
use Rattle.model.specs.Base.{value}
use Rattle.model.specs.Netlist.{Netlist, Kind, gate_of, pins_of, pin_net, output_net}
use Rattle.model.specs.Path.{valid_at}
use Rattle.model.specs.Read.{read_netlist, kind_of}
use Rattle.model.proofs.AnswerLaws.{value_inj}
use Rattle.model.proofs.NumberLaws.{gate-of, valid-parts}
use Rattle.model.proofs.ReadLaws.{legal, limits}
use Rattle.netlist.specs.Tables.{CircuitTables, SomeCircuit, GatePart, gate_part_of, kind_in, pin_in, output_in, output_at}
use Rattle.netlist.specs.declared.inner.Shape.{Shape}
use Rattle.netlist.proofs.OutputLaws.{output-here}
use Rattle.netlist.proofs.TableLaws.{few-nets, gate-part, gate-inside, output-is}
use Rattle.path_to_number.proofs.PathReadingCases.{outputs-few, outputs-room, place-start, place-room, place-net}
use Rattle.text_buffer.specs.Written.{Written}
use Rattle.text_buffer.proofs.WrittenLaws.{none_written, then-written, written_as, written-length}
use Rattle.path_lines.specs.PathText.{gate_line, input_line, output_line, gate_lines, path_lines}
use Rattle.path_lines.specs.Walked.{PinsAt, GatesTold, PathTold}

-- ---- the first of the pins that are left

pub record First (N : Netlist) (net : ℕ) (words : List ℕ) (at : ℕ) (left : List ℕ) : Type 0 where
  pub p : ℕ
  pub ps : List ℕ
  pub is : left ≡ p ∷ ps
  pub word : get_or words at 0 ≡ p
  pub few : p < length (pins_of N net)
  pub later : T (valid_at N (pin_net N net p) ps)
  pub after : PinsAt words (at + 1) ps

module _ (file : List ℕ) (N : Netlist) (e : read_netlist file ≡ value N) (net : ℕ) where
  first-pin : (words : List ℕ) (at : ℕ) (left : List ℕ) → T (valid_at N net left) → PinsAt words at left → N.inputs ≤ net → First N net words at left
  unfolding valid_at
  first-pin words at [] v q h = absurd (omega (arith, ltb→lt net N.inputs v))
  first-pin words at (p ∷ ps) v q h =
      let g = gate-of N (legal file N e) net p ps v in
      let z : at + 0 ≡ at = omega arith in
      record {
        p = p;
        ps = ps;
        is = refl;
        word = ap (λ (k : ℕ). get_or words k 0) (sym z) ∙ sym (get_or-drop at words 0 0) ∙ ap (λ (l : List ℕ). get_or l 0 0) q.is;
        few = g.1;
        later = g.2;
        after = record { rest = q.rest; is = sym (drop-drop 1 at words) ∙ ap (drop 1) q.is };
      }

  no_pin : (left : List ℕ) → T (valid_at N net left) → net < N.inputs → left ≡ []
  no_pin [] v h = refl
  no_pin (p ∷ ps) v h = absurd (omega (arith, (gate-of N (legal file N e) net p ps v).0))

-- ---- the walk

module _ (out₀ : List ℕ) (at : ℕ) (name : ℕ → List ℕ) (file ps words : List ℕ) (output inputs : ℕ) where
  pub record SoFar (N : Netlist) (pins out : List ℕ) (net place k : ℕ) : Type 0 where
    pub left : List ℕ
    pub done : List ℕ
    pub valid : T (valid_at N net left)
    pub held : PinsAt words (2 + k) left
    pub put : Written out₀ out at done place
    pub whole : done ++ gate_lines N name net left ≡ gate_lines N name output pins

  pub record Walking (out : List ℕ) (net place k : ℕ) : Type 0 where
    pub shape : Shape
    pub circuit : SomeCircuit file ps shape
    pub inputs_are : inputs ≡ shape.inputs
    pub high : net < shape.nets
    pub few : k + net ≤ 511
    pub long : length words ≡ 513
    pub room : at + 127 * 512 ≤ length out₀
    pub same : length out ≡ length out₀
    pub low : place ≤ at + 127 * k
    pub told : (N : Netlist) (pins : List ℕ) → read_netlist file ≡ value N → T (valid_at N output pins) → PinsAt words 2 pins → SoFar N pins out net place k

  pub walk_start : (shape : Shape) → inputs ≡ shape.inputs → SomeCircuit file ps shape → output < shape.nets → length words ≡ 513
      → at + 127 * 512 ≤ length out₀ → Walking out₀ output at 0
  walk_start shape i s h l r = record {
    shape = shape;
    circuit = s;
    inputs_are = i;
    high = h;
    few = omega (arith, few-nets s.known.tables);
    long = l;
    room = r;
    same = refl;
    low = omega arith;
    told = λ N pins e v q. record {
      left = pins;
      done = [];
      valid = v;
      held = q;
      put = none_written out₀ at (omega arith);
      whole = refl;
    };
  }

  module _ (out : List ℕ) (net place k : ℕ) (w : Walking out net place k) where
    tables : (N : Netlist) → read_netlist file ≡ value N → CircuitTables N file ps w.circuit.counts w.shape
    tables N e =
        let t = w.circuit.known.tables in
        subst (λ (M : Netlist). CircuitTables M file ps w.circuit.counts w.shape) (value_inj (sym t.legal ∙ e)) t

    pub walk_same : length out ≡ length out₀
    walk_same = w.same

    pub walk-place : place + 127 ≤ length out
    walk-place = omega (arith, w.low, w.few, w.room, w.same)

    pub walk_end : net < inputs → (r : ℕ) (o : List ℕ) → Written out o place (input_line name net) r → GatesTold out₀ o at file name words output r
    unfolding gate_lines
    walk_end h r o p = record {
      told = λ N pins e v q.
          let s = w.told N pins e v q in
          let none = no_pin file N e net s.left s.valid (omega (arith, w.inputs_are, (tables N e).inputs_are)) in
          written_as (ap (λ (l : List ℕ). s.done ++ gate_lines N name net l) (sym none) ∙ s.whole) (then-written s.put p);
    }

    module _ (above : inputs ≤ net) where
      lowest : w.shape.inputs ≤ net
      lowest = omega (arith, w.inputs_are)

      pub walk-few : net < 512
      walk-few = omega (arith, w.few)

      pub walk_inside : get_or ps net 0 ≤ length file
      walk_inside = gate-inside w.circuit.known.tables net lowest w.high

      pub walk-word : 2 + k < length words
      walk-word =
          let t = w.circuit.known.tables in
          omega (arith, lowest, w.few, w.long, (limits file w.circuit.known.circuit t.legal).some_input, t.inputs_are)

      module _ (part : List ℕ) (ep : part ≡ gate_part_of file ps net) where
        gate : (N : Netlist) → read_netlist file ≡ value N → GatePart part N net
        gate N e = subst (λ (x : List ℕ). GatePart x N net) (sym ep) (gate-part (tables N e) net lowest w.high)

        here : GatePart part w.circuit.known.circuit net
        here = gate w.circuit.known.circuit w.circuit.known.tables.legal

        pub walk-head : 3 < length part
        walk-head = omega (arith, here.inside)

        pub walk-kind-low : 1 ≤ kind_in part
        walk-kind-low = here.low_kind

        pub walk-kind-high : kind_in part ≤ 8
        walk-kind-high = here.high_kind

        pub walk-room : (many pin : ℕ) → many ≡ get_or part 3 0 → pin < many → 4 + 2 * pin + 2 ≤ length part
        walk-room many pin em there = omega (arith, here.inside)

        module _ (many pin : ℕ) (em : many ≡ get_or part 3 0) (epin : pin ≡ get_or words (2 + k) 0) where
          first : (N : Netlist) (e : read_netlist file ≡ value N) (left : List ℕ) → T (valid_at N net left) → PinsAt words (2 + k) left
              → First N net words (2 + k) left
          first N e left v q = first-pin file N e net words (2 + k) left v q (omega (arith, lowest, (tables N e).inputs_are))

          pub walk-stop : many ≤ pin → GatesTold out₀ out at file name words output place
          walk-stop h = record {
            told = λ N pins e v q.
                let s = w.told N pins e v q in
                let f = first N e s.left s.valid s.held in
                absurd (omega (arith, f.few, f.word, (gate N e).pin_count));
          }

          module _ (there : pin < many) where
            module _ (next : ℕ) (ex : next ≡ pin_in part pin) where
              pub walk-less : next < net
              walk-less = omega (arith, here.lower pin (omega arith), here.pin_is pin (omega arith))

              line-is : (N : Netlist) (e : read_netlist file ≡ value N) (p : ℕ) → get_or words (2 + k) 0 ≡ p
                  → gate_line name net (kind_of (kind_in part)) pin (pin_in part pin) ≡ gate_line name net (gate_of N net).kind p (pin_net N net p)
              line-is N e p word =
                  let g = gate N e in
                  ap (λ (K : Kind). gate_line name net K pin (pin_in part pin)) g.kind_is
                  ∙ ap (λ (n : ℕ). gate_line name net (gate_of N net).kind pin n) (g.pin_is pin (omega arith))
                  ∙ ap (λ (n : ℕ). gate_line name net (gate_of N net).kind n (pin_net N net n)) (epin ∙ word)

              next-is : (N : Netlist) (e : read_netlist file ≡ value N) (p : ℕ) → get_or words (2 + k) 0 ≡ p → pin_net N net p ≡ next
              next-is N e p word = sym (ex ∙ (gate N e).pin_is pin (omega arith) ∙ ap (pin_net N net) (epin ∙ word))

              module _ (r : ℕ) (o : List ℕ) (p : Written out o place (gate_line name net (kind_of (kind_in part)) pin (pin_in part pin)) r) where
                more : (N : Netlist) (pins : List ℕ) → read_netlist file ≡ value N → T (valid_at N output pins) → PinsAt words 2 pins
                    → SoFar N pins o next r (k + 1)
                unfolding gate_lines
                more N pins e v q =
                    let s = w.told N pins e v q in
                    let f = first N e s.left s.valid s.held in
                    let n = next-is N e f.p f.word in
                    let line : List ℕ = gate_line name net (gate_of N net).kind f.p (pin_net N net f.p) in
                    let j : 2 + k + 1 ≡ 2 + (k + 1) = omega arith in
                    record {
                      left = f.ps;
                      done = s.done ++ line;
                      valid = subst (λ (m : ℕ). T (valid_at N m f.ps)) n f.later;
                      held = subst (λ (m : ℕ). PinsAt words m f.ps) j f.after;
                      put = then-written s.put (written_as (line-is N e f.p f.word) p);
                      whole = ap (λ (m : ℕ). s.done ++ line ++ gate_lines N name m f.ps) (sym n)
                          ∙ append_assoc s.done line (gate_lines N name (pin_net N net f.p) f.ps)
                          ∙ ap (λ (l : List ℕ). s.done ++ gate_lines N name net l) (sym f.is) ∙ s.whole;
                    }

                pub walk-again : r ≤ place + 127 → Walking o next r (k + 1)
                walk-again l = record {
                  shape = w.shape;
                  circuit = w.circuit;
                  inputs_are = w.inputs_are;
                  high = omega (arith, walk-less, w.high);
                  few = omega (arith, walk-less, w.few);
                  long = w.long;
                  room = w.room;
                  same = written-length p ∙ w.same;
                  low = omega (arith, l, w.low);
                  told = more;
                }

pub ruleset walk-cases =
    (walk_start, walk_same, walk-place, walk_end, walk-few, walk_inside, walk-word, walk-head, walk-kind-low, walk-kind-high, walk-stop, walk-room, walk-less, walk-again, rules)

-- ---- the output, then the gates

module _ (out : List ℕ) (name : ℕ → List ℕ) (file ps words : List ℕ) (shape : Shape) (s : SomeCircuit file ps shape) (place : ℕ)
    (ep : place ≡ get_or words 0 0) where
  theirs : (N : Netlist) → read_netlist file ≡ value N → CircuitTables N file ps s.counts shape
  theirs N e =
      let t = s.known.tables in
      subst (λ (M : Netlist). CircuitTables M file ps s.counts shape) (value_inj (sym t.legal ∙ e)) t

  pub output-none : shape.outputs ≤ place → PathTold out out file name words 0
  output-none h = record {
    told = λ N p e v o q. absurd (omega (arith, (valid-parts N (legal file N e) p v).0, (theirs N e).outputs_are));
  }

  module _ (there : place < shape.outputs) (outs : List ℕ) (eo : outs ≡ drop (length file - 4 * shape.outputs) file) (net : ℕ)
      (en : net ≡ output_in (take (length outs - 4 * place) (drop (4 * place) outs))) where
    pub output-told : (m r : ℕ) (o1 o2 : List ℕ) → Written out o1 0 (output_line name place net) m → GatesTold o1 o2 m file name words net r
        → PathTold out o2 file name words r
    unfolding path_lines
    output-told m r o1 o2 w g = record {
      told = λ N p e v o q.
          let is : net ≡ output_net N place = output-here outs place net en ∙ ap (λ (x : List ℕ). output_at x place) eo ∙ output-is (theirs N e) place there in
          let at : place ≡ p.output = ep ∙ o in
          let n : net ≡ output_net N p.output = is ∙ ap (output_net N) at in
          let first : output_line name place net ≡ output_line name p.output (output_net N p.output) =
          ap (λ (k : ℕ). output_line name k net) at ∙ ap (output_line name p.output) n in
          let gates = g.told N p.pins e (subst (λ (k : ℕ). T (valid_at N k p.pins)) (sym n) (valid-parts N (legal file N e) p v).1) q in
          then-written (written_as first w) (written_as (ap (λ (k : ℕ). gate_lines N name k p.pins) n) gates);
    }

pub output-room : (r : ℕ) (out o : List ℕ) (t : List ℕ) → Written out o 0 t r → r ≤ 127 → 65536 ≤ length out → r + 127 * 512 ≤ length o
output-room r out o t w h l = omega (arith, written-length w)

pub ruleset output-cases = (outputs-few, outputs-room, place-start, place-room, place-net, output-none, output-told, output-room, rules)
