-- The cases of the paths up to a number: those of the outputs before the one that the number ends at, and some of that output's.
use Rattle.model.proofs.Prelude.{ℕ, ◌≤◌, ◌<◌, ◌+◌, ◌-◌, ◌*◌, suc, ◌^◌, ◌≡◌, ◌∙◌, ap, refl, sym, ap₂, true, false, List, map, length, get_or, drop}
use Rattle.model.proofs.Prelude.{replicate, length-map, length-replicate, get_or-replicate, ext_get_or, lt→ltb, arith, rules, lt-leb}
use Rattle.model.specs.Base.{value, sum_of}
use Rattle.model.specs.Netlist.{Netlist, is_input, output_count, output_counts, output_net}
use Rattle.model.specs.Path.{counts_before, split}
use Rattle.model.specs.Read.{read_netlist}
use Rattle.model.proofs.AnswerLaws.{value_inj}
use Rattle.model.proofs.BoolLaws.{T→true, cases}
use Rattle.model.proofs.ListLaws.{get_d_map-in}
use Rattle.model.proofs.NetLaws.{output-count-wire, output-count-gate}
use Rattle.model.proofs.ReadLaws.{legal, limits}
use Rattle.netlist.specs.Tables.{CircuitTables}
use Rattle.netlist.specs.declared.inner.Shape.{Shape}
use Rattle.netlist.proofs.TableLaws.{outputs-read, output-below}
use Rattle.path_step.specs.Picks.{RecordsOfOutputs, output_counts_in, pick_output_of}
use Rattle.path_step.specs.declared.inner.pins.Pick.{Pick}
use Rattle.path_step.proofs.OutputPicks.{counts-before}
use Rattle.path_step.proofs.WalkTableLaws.{outputs-before}
use Rattle.path_of_number.specs.Tasks.{Wanted}
use Rattle.path_of_number.proofs.WritingCases.{pin-is, number_is, net-is, place, wanted-few, wanted_room, wanted-some, wanted-outputs, wanted-small}
use Rattle.path_of_number.proofs.WritingCases.{picked_net, picked_low, picked_high}
use Rattle.length_rows.specs.Lengths.{lengths, row, partials, partials_up_to, paths_up_to}
use Rattle.length_rows.specs.RowSums.{Room, added, column}
use Rattle.length_rows.proofs.RowLaws.{row_at, row_is, added-at, added-length, zeros-room, column-at}
use Rattle.length_rows.proofs.PathLengthLaws.{output_partial, output_partials, paths-few, paths-step}
use Rattle.length_ranks.specs.NetRows.{NetRows, Ranked, Small, output_sums}

module _ {N : Netlist} {file ps cs : List ℕ} {shape : Shape} (t : CircuitTables N file ps cs shape) {rows : List (List ℕ)}
    (r : NetRows N shape.nets rows) (l : ℕ) (short : l < lengths) where
  abbrev outs : List ℕ
  outs = drop (length file - 4 * shape.outputs) file

  at-output : (net : ℕ) → net < shape.nets → output_count shape.inputs (column l rows) net ≡ output_partial N l net
  at-output net h =
      cases shape.inputs net
      (λ g.
      let z : is_input N net ≡ false = lt-leb (suc net) N.inputs (omega (arith, t.inputs_are)) in
      let here : output_partial N l net ≡ partials N net l = rw (z, output_partial) refl in
      output-count-gate shape.inputs (column l rows) net g ∙ column-at l rows net ∙ ap (λ (x : List ℕ). get_or x l 0) (r.right net h)
      ∙ row_at (partials N net) l short ∙ sym here)
      (λ g.
      let z : is_input N net ≡ true = T→true (is_input N net) (lt→ltb net N.inputs (omega (arith, t.inputs_are))) in
      let here : output_partial N l net ≡ 0 = rw (z, output_partial) refl in
      output-count-wire shape.inputs (column l rows) net g ∙ sym here)

  pub outputs-are : output_counts_in outs shape.outputs shape.inputs (column l rows) ≡ output_partials N l
  unfolding output_counts_in
  outputs-are =
      let f : ℕ → ℕ = output_count shape.inputs (column l rows) in
      ap (map f) (outputs-read t)
      ∙ ext_get_or 0 (map f N.outputs) (output_partials N l) (length-map N.outputs f ∙ sym (length-map N.outputs (output_partial N l)))
      (λ o h.
      let there : o < length N.outputs = omega (arith, length-map N.outputs f) in
      get_d_map-in f N.outputs o 0 0 there ∙ at-output (output_net N o) (output-below t o (omega (arith, t.outputs_are)))
      ∙ sym (get_d_map-in (output_partial N l) N.outputs o 0 0 there))

module _ {file ps cs : List ℕ} {shape : Shape} {rows : List (List ℕ)} {number : ℕ} (r : Ranked file ps cs shape rows number) where
  abbrev N : Netlist
  N = r.known.circuit

  abbrev t : CircuitTables N file ps cs shape
  t = r.known.tables

  same : (M : Netlist) → read_netlist file ≡ value M → N ≡ M
  same M read = value_inj (sym t.legal ∙ read)

  -- no paths up to 0
  pub rank_none : number < 1 → (M : Netlist) → read_netlist file ≡ value M → replicate lengths 0 ≡ row (λ l. paths_up_to M l number)
  rank_none h M read =
      row_is (replicate lengths 0) (λ l. paths_up_to M l number) (length-replicate {A = ℕ} lengths 0)
      (λ l b. omega (arith, get_or-replicate {A = ℕ} lengths l 0 0 b, paths-few M l number))

  module _ (some : 1 ≤ number) where
    pub wanted : Wanted file ps cs shape number
    wanted = record { circuit = N; tables = t; low = some; high = r.high }

    module _ (outs : List ℕ) (eo : outs ≡ drop (length file - 4 * shape.outputs) file) (o : Pick)
        (ep : o ≡ pick_output_of outs shape.outputs shape.inputs cs number) where
      here : o.pin < shape.outputs
      here = omega (arith, place file ps cs shape number wanted outs eo o ep N t r.high, t.outputs_are)

      pub rank_records : RecordsOfOutputs outs o.pin
      rank_records = outputs-before t eo o.pin (omega (arith, here))

      parts : (l : ℕ) → l < lengths
          → paths_up_to N l number ≡ output_sums outs o.pin shape.inputs rows l + partials_up_to N o.net l o.number
      unfolding output_sums
      parts l h =
          let pin = pin-is file ps cs shape number wanted outs eo o ep N t r.high in
          let path = number_is file ps cs shape number wanted outs eo o ep N t r.high in
          let net : o.net ≡ output_net N (split (output_counts N) number).0 =
          net-is file ps cs shape number wanted outs eo o ep N t r.high ∙ ap (output_net N) pin in
          let before : sum_of (output_counts_in outs o.pin shape.inputs (column l rows)) ≡ counts_before (split (output_counts N) number).0 (output_partials N l) =
          (counts-before outs shape.outputs shape.inputs (column l rows) o.pin (omega (arith, here))).0
          ∙ ap₂ (λ k (x : List ℕ). counts_before k x) pin
          (ap (λ (x : List ℕ). output_counts_in x shape.outputs shape.inputs (column l rows)) eo ∙ outputs-are t r.known.rows_are_of l h) in
          let rest : partials_up_to N o.net l o.number
          ≡ partials_up_to N (output_net N (split (output_counts N) number).0) l (split (output_counts N) number).1 =
          ap₂ (λ n k. partials_up_to N n l k) net path in
          paths-step N (legal file N t.legal) l number some r.high ∙ omega (arith, before, rest)

      few : (l : ℕ) → l < lengths → output_sums outs o.pin shape.inputs rows l ≤ 2 ^ 62
      few l h = omega (arith, parts l h, paths-few N l number, r.high, (limits file N t.legal).total_fits)

      pub rank_room : Room (replicate lengths 0) (output_sums outs o.pin shape.inputs rows)
      rank_room = zeros-room (output_sums outs o.pin shape.inputs rows) (λ l h. omega (arith, few l h))

      module _ (ns : List ℕ) (en : ns ≡ added (replicate lengths 0) (output_sums outs o.pin shape.inputs rows)) where
        so_far : (l : ℕ) → l < lengths → get_or ns l 0 ≡ output_sums outs o.pin shape.inputs rows l
        so_far l h =
            ap (λ (x : List ℕ). get_or x l 0) en ∙ added-at (replicate lengths 0) (output_sums outs o.pin shape.inputs rows) l h
            ∙ omega (arith, get_or-replicate {A = ℕ} lengths l 0 0 h)

        pub rank_small : Small ns
        rank_small = record {
          long = ap (λ (x : List ℕ). length x) en ∙ added-length (replicate lengths 0) (output_sums outs o.pin shape.inputs rows);
          few = λ l h. omega (arith, so_far l h, few l h);
        }

        pub rank_end : (ms : List ℕ) → ((M : Netlist) → read_netlist file ≡ value M → ms ≡ added ns (λ l. partials_up_to M o.net l o.number))
            → (M : Netlist) → read_netlist file ≡ value M → ms ≡ row (λ l. paths_up_to M l number)
        rank_end ms e M read =
            e N t.legal
            ∙ row_is (added ns f) (λ l. paths_up_to N l number) (added-length ns f) (λ l h. omega (arith, added-at ns f l h, so_far l h, parts l h))
            ∙ ap (λ (K : Netlist). row (λ l. paths_up_to K l number)) (same M read)
          where
            f : ℕ → ℕ
            f l = partials_up_to N o.net l o.number

pub ruleset rank-cases =
    (wanted-few, wanted_room, wanted-some, wanted-outputs, wanted-small, picked_net, picked_low, picked_high, rank_records, rank_room, rank_small, rules)
