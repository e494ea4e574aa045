-- What the tables of a legal netlist say: the part at each gate's position begins with its record, the outputs' records end the file, each count stands
-- at its net.
use Rattle.model.proofs.Prelude.{ℕ, ◌≤◌, ◌<◌, ◌-◌, ◌*◌, ◌≡◌, ◌∙◌, ap, sym, subst, ap₂, List, map, length, get_or, drop, take, length-drop, leb, T}
use Rattle.model.proofs.Prelude.{leb→le, ltb, ltb→lt, arith}
use Rattle.model.specs.Base.{all_of}
use Rattle.model.specs.Netlist.{Netlist, Gate, nets, counts, pins_of, pin_net, output_net, output_count, output_counts}
use Rattle.model.specs.Read.{net_fields}
use Rattle.model.proofs.BoolLaws.{and_left, and_right}
use Rattle.model.proofs.ListLaws.{all_of_at}
use Rattle.model.proofs.NetLaws.{length-counts}
use Rattle.model.proofs.NumberLaws.{pin-lower}
use Rattle.model.proofs.ReadLaws.{parts, legal, limits, length-net_fields, pins-fit}
use Rattle.netlist.specs.Places.{outputs_from}
use Rattle.netlist.specs.Tables.{CircuitTables, GatePart, kind_in, pin_count_in, output_at, gate_part_of}
use Rattle.netlist.specs.declared.inner.Shape.{Shape}
use Rattle.record_bytes.proofs.PartLaws.{part-rest}
use Rattle.netlist.proofs.PinLaws.{fields_at}
use Rattle.netlist_gates.proofs.PaddedLaws.{pad_get_d}
use Rattle.netlist.proofs.PaddedOutputs.{pad_counts}
use Rattle.netlist.proofs.PlaceLaws.{RecordAt, record_at_lem}
use Rattle.netlist.proofs.OutputLaws.{outputs, below, outputs-at}

-- the part that the code makes at a position
pub part_at : (file ps : List ℕ) (net at : ℕ) → at ≡ get_or ps net 0 → take (length file - at) (drop at file) ≡ gate_part_of file ps net
part_at file ps net at e = part-rest at file ∙ ap (λ k. drop k file) e

-- the part at the position of a gate's record
part-of_gate : {file : List ℕ} {N : Netlist} {net at : ℕ} → RecordAt file N net at
    → ((p : ℕ) → p < length (pins_of N net) → pin_net N net p < net) → GatePart (drop at file) N net
part-of_gate {file} {N} {net} {at} g lower =
    let part = drop at file in
    let kind = kind_in part in
    let n = pin_count_in part in
    let pins : pins_of N net ≡ net_fields n (drop 4 part) = ap (λ (x : Gate). x.pins) g.gate_is in
    let many : n ≡ length (pins_of N net) = sym (ap (λ (x : List ℕ). length x) pins ∙ length-net_fields n (drop 4 part)) in
    let few = pins-fit kind n g.passes.fits in
    record {
      low_kind = leb→le 1 kind (and_left (leb 1 kind) (leb kind 8) g.passes.kind);
      high_kind = leb→le kind 8 (and_right (leb 1 kind) (leb kind 8) g.passes.kind);
      kind_is = sym (ap (λ (x : Gate). x.kind) g.gate_is);
      fits = g.passes.fits;
      some_pins = leb→le 1 n (and_left (leb 1 n) (leb n 8) few);
      few_pins = leb→le n 8 (and_right (leb 1 n) (leb n 8) few);
      pin_count = many;
      inside = g.passes.room;
      pins_are = sym pins;
      pin_is = λ p h. sym (ap (λ (x : List ℕ). get_or x p 0) pins ∙ fields_at n 4 part p h);
      lower = λ p h. lower p (omega (arith, many));
    }

module _ {N : Netlist} {file ps cs : List ℕ} {shape : Shape} (t : CircuitTables N file ps cs shape) where
  pub few-inputs : shape.inputs ≤ 64
  few-inputs = omega (arith, t.inputs_are, (limits file N t.legal).few_inputs)

  pub few-nets : shape.nets ≤ 512
  few-nets = omega (arith, t.nets_are, (limits file N t.legal).few_nets)

  pub inputs-below : shape.inputs ≤ shape.nets
  inputs-below = omega (arith, t.inputs_are, t.nets_are)

  pub few-outputs : shape.outputs ≤ 64
  few-outputs = omega (arith, t.outputs_are, (limits file N t.legal).few_outputs)

  pub some-output : 0 < shape.outputs
  some-output = omega (arith, t.outputs_are, (limits file N t.legal).some_output)

  -- the gate that drives a net
  module _ (net : ℕ) (low : shape.inputs ≤ net) (high : net < shape.nets) where
    at-gate : RecordAt file N net (get_or ps net 0)
    at-gate = subst (λ (x : List ℕ). RecordAt file N net (get_or x net 0)) (sym t.positions_are)
        (record_at_lem file N t.legal net (omega (arith, t.inputs_are)) (omega (arith, t.nets_are)))

    pub gate-part : GatePart (gate_part_of file ps net) N net
    gate-part =
        part-of_gate at-gate (λ p h. pin-lower N (legal file N t.legal) net p (omega (arith, t.inputs_are)) (omega (arith, t.nets_are)) h)

    pub gate-inside : get_or ps net 0 ≤ length file
    gate-inside = omega (arith, at-gate.passes.room, length-drop (get_or ps net 0) file)

    -- the position of a gate is not 0, that of an input is
    pub gate-placed : 8 ≤ get_or ps net 0
    gate-placed = at-gate.after_header

  -- the count of a net
  pub count_at : (net : ℕ) → net < shape.nets → get_or cs net 0 ≡ get_or (counts N) net 0
  count_at net h = ap (λ (x : List ℕ). get_or x net 0) t.counts_are ∙ pad_get_d (counts N) net (omega (arith, length-counts N, t.nets_are))

  -- the records of the outputs
  pub outputs-inside : 4 * shape.outputs ≤ length file
  outputs-inside = omega (arith, t.outputs_are, (outputs file N (parts file N t.legal)).room)

  pub outputs-read : outputs_from shape.outputs (drop (length file - 4 * shape.outputs) file) ≡ N.outputs
  outputs-read = sym ((outputs file N (parts file N t.legal)).outputs-are
      ∙ ap (λ m. outputs_from m (drop (length file - 4 * m) file)) (sym t.outputs_are))

  pub output-is : (o : ℕ) → o < shape.outputs → output_at (drop (length file - 4 * shape.outputs) file) o ≡ output_net N o
  output-is o h = sym (outputs-at shape.outputs (drop (length file - 4 * shape.outputs) file) o h) ∙ ap (λ (x : List ℕ). get_or x o 0) outputs-read

  pub output-below : (o : ℕ) → o < shape.outputs → output_net N o < shape.nets
  output-below o h =
      let all = below (nets N) 0 N.outputs (legal file N t.legal).outputs_ok in
      let here : output_net N o < nets N = ltb→lt (output_net N o) (nets N) (all_of_at (λ p. ltb p (nets N)) N.outputs 0 all o (omega (arith, t.outputs_are))) in
      omega (arith, t.nets_are)

  pub counts-of_outputs : map (output_count shape.inputs cs) N.outputs ≡ output_counts N
  counts-of_outputs =
      let few : T (all_of (λ p. ltb p (length (counts N))) N.outputs) =
      subst (λ m. T (all_of (λ p. ltb p m) N.outputs)) (sym (length-counts N)) (below (nets N) 0 N.outputs (legal file N t.legal).outputs_ok) in
      ap₂ (λ k (x : List ℕ). map (output_count k x) N.outputs) t.inputs_are t.counts_are ∙ pad_counts N.inputs (counts N) N.outputs few
