-- The path offsets of a legal netlist's pins and outputs, from its tables.
use Rattle.model.proofs.Prelude.{ℕ, ◌≤◌, ◌<◌, ◌+◌, ◌-◌, ◌*◌, suc, zero, ◌≡◌, ◌∙◌, ap, refl, sym, subst, List, length, get_or, drop, length-drop, arith}
use Rattle.model.proofs.Prelude.{rules}
use Rattle.model.specs.Base.{sum_of}
use Rattle.model.specs.Netlist.{Netlist, counts, pin_net, pin_counts, output_count, output_counts, path_total}
use Rattle.model.specs.Path.{counts_before}
use Rattle.model.proofs.ListLaws.{get_d_map-in}
use Rattle.model.proofs.NetLaws.{count-gate}
use Rattle.model.proofs.NumberLaws.{counts_before-le, counts_before-suc, length-pin_counts, pin_counts-at, length-output_counts}
use Rattle.model.proofs.ReadLaws.{legal, limits}
use Rattle.netlist.specs.Tables.{CircuitTables, GatePart, gate_part_of}
use Rattle.netlist.specs.declared.inner.Shape.{Shape}
use Rattle.netlist.proofs.TableLaws as tables
use Rattle.block_words.specs.Table.{CircuitTable, GateRow}
use Rattle.block_activity.specs.Marks.{OffsetTable}
use Rattle.block_activity.specs.OffsetParts.{paths_to, pins_at, pin_paths, GateFits, GatesFit, GatesPlaced, output_paths, OutputsFit, OutputsPlaced, OffsetsOf, SomeOffsets}
use Rattle.block_activity.specs.Layout.{offset_table_size}

-- offsets by a list of what each place has
module _ (f : ℕ → ℕ) (cs : List ℕ) (is : (p : ℕ) → p < length cs → f p ≡ get_or cs p 0) where
  paths-before : (p : ℕ) → p ≤ length cs → paths_to f p ≡ counts_before p cs
  paths-before zero l = refl
  paths-before (suc p) l = omega (arith, paths-before p (omega arith), is p l, counts_before-suc cs p l)

  paths-most : (p : ℕ) → p ≤ length cs → paths_to f p ≤ sum_of cs
  paths-most zero l = omega arith
  paths-most (suc p) l = omega (arith, paths-before p (omega arith), is p l, counts_before-le cs p l)

module _ {N : Netlist} {file cs : List ℕ} {shape : Shape} {table : List ℕ} (k : OffsetsOf N file cs shape table) where
  -- the gate that drives a net
  module _ (net : ℕ) (low : shape.inputs ≤ net) (high : net < shape.nets) where
    row : GateRow N table net
    row = k.gates.rows net (omega (arith, k.tables.inputs_are)) (omega (arith, k.tables.nets_are))

    part : GatePart (gate_part_of file k.positions net) N net
    part = tables.gate-part k.tables net low high

    pins-are : pins_at table net ≡ length (pin_counts N net)
    pins-are = row.pin_count ∙ sym (length-pin_counts N (legal file N k.tables.legal) net)

    pin_at : (p : ℕ) → p < pins_at table net → get_or table (8 * net + p) 0 ≡ pin_net N net p
    pin_at p h = row.pin_is p (omega (arith, row.pin_count))

    pin-below : (p : ℕ) → p < pins_at table net → pin_net N net p < net
    pin-below p h = part.lower p (omega (arith, row.pin_count, part.pin_count))

    pin-paths : (p : ℕ) → p < length (pin_counts N net) → pin_paths cs table net p ≡ get_or (pin_counts N net) p 0
    pin-paths p h =
        let l : p < pins_at table net = omega (arith, pins-are) in
        ap (λ i. get_or cs i 0) (pin_at p l)
        ∙ tables.count_at k.tables (pin_net N net p) (omega (arith, pin-below p l))
        ∙ sym (pin_counts-at N (legal file N k.tables.legal) net p (omega (arith, row.pin_count)))

    pin-offset : (p : ℕ) → p ≤ pins_at table net → paths_to (pin_paths cs table net) p ≡ counts_before p (pin_counts N net)
    pin-offset p h = paths-before (pin_paths cs table net) (pin_counts N net) pin-paths p (omega (arith, pins-are))

    gate-fits : GateFits cs table net
    gate-fits = record {
      is_net = omega (arith, tables.few-nets k.tables);
      few_pins = omega (arith, row.pin_count, part.pin_count, part.few_pins);
      at_nets = λ p h. omega (arith, pin_at p h, pin-below p h, tables.few-nets k.tables);
      fits = λ p h.
          let most = paths-most (pin_paths cs table net) (pin_counts N net) pin-paths p (omega (arith, pins-are)) in
          let all : get_or (counts N) net 0 ≡ sum_of (pin_counts N net) = count-gate N (legal file N k.tables.legal).lower_pins net
          (omega (arith, k.tables.inputs_are)) (omega (arith, k.tables.nets_are)) in
          omega (arith, most, all, (limits file N k.tables.legal).counts_fit net);
    }

  gates-fit : GatesFit cs table shape.inputs shape.nets
  gates-fit = record { few_nets = tables.few-nets k.tables; each = gate-fits }

  -- the outputs
  abbrev outs : List ℕ
  outs = drop (length file - 4 * shape.outputs) file

  out-paths : (o : ℕ) → o < length (output_counts N) → output_paths outs shape.inputs cs o ≡ get_or (output_counts N) o 0
  out-paths o h =
      let l : o < length N.outputs = omega (arith, length-output_counts N (legal file N k.tables.legal)) in
      ap (output_count shape.inputs cs) (tables.output-is k.tables o (omega (arith, k.tables.outputs_are)))
      ∙ sym (get_d_map-in (output_count shape.inputs cs) N.outputs o 0 0 l)
      ∙ ap (λ (x : List ℕ). get_or x o 0) (tables.counts-of_outputs k.tables)

  outs-many : shape.outputs ≡ length (output_counts N)
  outs-many = k.tables.outputs_are ∙ sym (length-output_counts N (legal file N k.tables.legal))

  outputs-fit : OutputsFit outs shape.inputs shape.outputs cs
  unfolding path_total
  outputs-fit = record {
    few = tables.few-outputs k.tables;
    inside = omega (arith, length-drop (length file - 4 * shape.outputs) file, tables.outputs-inside k.tables);
    at_nets = λ o h. omega (arith, tables.output-is k.tables o h, tables.output-below k.tables o h, tables.few-nets k.tables);
    fits = λ o h. omega (arith, paths-most (output_paths outs shape.inputs cs) (output_counts N) out-paths o (omega (arith, outs-many)), (limits file N k.tables.legal).total_fits);
  }

  -- both
  offsets-true : {gated offsets : List ℕ} → GatesPlaced cs table shape.inputs shape.nets gated
      → OutputsPlaced outs shape.inputs shape.outputs cs gated offsets → OffsetTable N offsets
  offsets-true {gated} {offsets} g o = record {
    pin_offset = λ net p a b h.
        let low : shape.inputs ≤ net = omega (arith, k.tables.inputs_are) in
        let high : net < shape.nets = omega (arith, k.tables.nets_are) in
        let l : p < pins_at table net = omega (arith, (row net low high).pin_count) in
        o.same (8 * net + p) (omega (arith, l, (gate-fits net low high).few_pins, (gate-fits net low high).is_net))
        ∙ g.each net p low high l ∙ pin-offset net low high p (omega arith);
    out_offset = λ i h. o.offsets i (omega (arith, k.tables.outputs_are))
        ∙ paths-before (output_paths outs shape.inputs cs) (output_counts N) out-paths i (omega (arith, outs-many, k.tables.outputs_are));
    out_net = λ i h. o.nets i (omega (arith, k.tables.outputs_are)) ∙ tables.output-is k.tables i (omega (arith, k.tables.outputs_are));
  }

module _ {file cs : List ℕ} {shape : Shape} {table : List ℕ} (s : SomeOffsets file cs shape table) where
  pub some-gates : GatesFit cs table shape.inputs shape.nets
  some-gates = gates-fit s.known

  pub few-outputs : shape.outputs ≤ 64
  few-outputs = tables.few-outputs s.known.tables

  pub outputs-inside : 4 * shape.outputs ≤ length file
  outputs-inside = tables.outputs-inside s.known.tables

  pub some-outputs : {part : List ℕ} → part ≡ drop (length file - 4 * shape.outputs) file → OutputsFit part shape.inputs shape.outputs cs
  some-outputs e = subst (λ (x : List ℕ). OutputsFit x shape.inputs shape.outputs cs) (sym e) (outputs-fit s.known)

  pub placed-length : {part gated offsets : List ℕ} → GatesPlaced cs table shape.inputs shape.nets gated
      → OutputsPlaced part shape.inputs shape.outputs cs gated offsets → length offsets ≡ offset_table_size
  placed-length g o = o.same_length_of ∙ g.room

  pub placed-table : {part gated offsets : List ℕ} → GatesPlaced cs table shape.inputs shape.nets gated
      → part ≡ drop (length file - 4 * shape.outputs) file → OutputsPlaced part shape.inputs shape.outputs cs gated offsets
      → (N : Netlist) (positions : List ℕ) → CircuitTables N file positions cs shape → CircuitTable N table shape.inputs shape.nets → OffsetTable N offsets
  placed-table {part} {gated} {offsets} g e o N positions t c =
      offsets-true (record { positions = positions; tables = t; gates = c }) g
      (subst (λ (x : List ℕ). OutputsPlaced x shape.inputs shape.outputs cs gated offsets) e o)

pub ruleset offsets-cases = (some-gates, few-outputs, outputs-inside, some-outputs, placed-length, placed-table, rules)
