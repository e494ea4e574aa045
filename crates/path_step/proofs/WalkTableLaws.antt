-- What the tables of a legal netlist say of its pins and outputs to the walk from an output back to an input.
use Rattle.model.proofs.Prelude.{ℕ, ◌≤◌, ◌<◌, ◌-◌, ◌*◌, ◌^◌, ◌≡◌, ◌∙◌, ap, sym, List, map, length, get_or, drop, length-drop, ext_get_or, arith}
use Rattle.model.specs.Base.{sum_of}
use Rattle.model.specs.Netlist.{Netlist, counts, pin_counts, output_count, output_counts, output_net}
use Rattle.model.proofs.NetLaws.{count-gate}
use Rattle.model.proofs.NumberLaws.{length-pin_counts, pin_counts-at}
use Rattle.model.proofs.ReadLaws.{legal, limits}
use Rattle.netlist.specs.Places.{outputs_from}
use Rattle.netlist.specs.Tables.{CircuitTables, GatePart, gate_part_of, pin_count_in, pin_in, output_at}
use Rattle.netlist.specs.declared.inner.Shape.{Shape}
use Rattle.netlist.proofs.TableLaws.{gate-part, count_at, few-nets, outputs-inside, outputs-read, output-is, output-below, counts-of_outputs}
use Rattle.path_step.specs.Picks.{PinsIn, pin_counts_in, RecordsOfOutputs, output_counts_in}
use Rattle.path_step.proofs.PinCases.{length-pins, pins-at}

module _ {N : Netlist} {file ps cs : List ℕ} {shape : Shape} (t : CircuitTables N file ps cs shape) where
  -- the records of the outputs
  module _ {outs : List ℕ} (e : outs ≡ drop (length file - 4 * shape.outputs) file) where
    pub outputs-before : (n : ℕ) → n ≤ shape.outputs → RecordsOfOutputs outs n
    outputs-before n h = record {
      inside = omega (arith, ap (length {A = ℕ}) e, length-drop (length file - 4 * shape.outputs) file, outputs-inside t);
      low = λ o there.
          let net : output_at outs o ≡ output_net N o = ap (λ (x : List ℕ). output_at x o) e ∙ output-is t o (omega arith) in
          omega (arith, net, output-below t o (omega arith), few-nets t);
    }

    pub output-counts : output_counts_in outs shape.outputs shape.inputs cs ≡ output_counts N
    unfolding output_counts_in
    output-counts = ap (λ (x : List ℕ). map (output_count shape.inputs cs) (outputs_from shape.outputs x)) e
        ∙ ap (map (output_count shape.inputs cs)) (outputs-read t) ∙ counts-of_outputs t

  -- the gate that drives a net
  module _ (net : ℕ) (low : shape.inputs ≤ net) (high : net < shape.nets) where
    abbrev part : List ℕ
    part = gate_part_of file ps net

    gate : GatePart part N net
    gate = gate-part t net low high

    pub pin-low : (p : ℕ) → p < pin_count_in part → pin_in part p < net
    pin-low p h = omega (arith, gate.pin_is p h, gate.lower p h)

    pub pins-in : PinsIn part
    pins-in = record {
      some = gate.some_pins;
      inside = gate.inside;
      low = λ p h. omega (arith, pin-low p h, few-nets t);
    }

    pub pin-counts : pin_counts_in part cs ≡ pin_counts N net
    pin-counts =
        let w = legal file N t.legal in
        let long : length (pin_counts_in part cs) ≡ pin_count_in part = length-pins part cs in
        ext_get_or 0 (pin_counts_in part cs) (pin_counts N net) (long ∙ gate.pin_count ∙ sym (length-pin_counts N w net))
        (λ p h.
        let there : p < pin_count_in part = omega (arith, long) in
        pins-at part cs p there ∙ count_at t (pin_in part p) (omega (arith, pin-low p there)) ∙ ap (λ n. get_or (counts N) n 0) (gate.pin_is p there)
        ∙ sym (pin_counts-at N w net p (omega (arith, gate.pin_count))))

    pub pins-sum : sum_of (pin_counts_in part cs) ≡ get_or (counts N) net 0
    pins-sum = ap sum_of pin-counts
        ∙ sym (count-gate N (legal file N t.legal).lower_pins net (omega (arith, t.inputs_are)) (omega (arith, t.nets_are)))

    pub pins-small : sum_of (pin_counts_in part cs) ≤ 2 ^ 62
    pins-small = omega (arith, pins-sum, (limits file N t.legal).counts_fit net)
