-- A path of the netlist is open by the bytes of the open pins exactly when the test detects its fault.
use Rattle.model.proofs.Prelude.{ℕ, ◌≤◌, ◌<◌, ◌+◌, ◌-◌, ◌*◌, ◌≡◌, ◌∙◌, ap, sym, subst, ap₂, Bool, false, ◌&&◌, not, List, [], ◌∷◌, length, get_or}
use Rattle.model.proofs.Prelude.{drop, T, ltb→lt, eqb→eq, arith, rules}
use Rattle.model.specs.Base.{bit}
use Rattle.model.specs.Netlist.{Netlist, nets, pin_net, path_total, output_counts, output_net}
use Rattle.model.specs.Path.{Edge, rising, falling, valid_at, split, path_at, path_of}
use Rattle.model.specs.Detect.{Test, all_open, open_pin, has_edge, detects, detects_number}
use Rattle.model.specs.Read.{test_rules, class_of, test_of, vector_bytes_of}
use Rattle.model.proofs.AnswerLaws.{checks→, value_inj}
use Rattle.model.proofs.NumberLaws.{gate-of, pin-lower, output-net, valid-parts, number-of_path}
use Rattle.model.proofs.ReadLaws.{legal, limits, in_class_lem, vector-first, vector-last}
use Rattle.model.proofs.WellFormed.{WellFormed}
use Rattle.netlist.specs.Tables.{CircuitTables, SomeCircuit}
use Rattle.netlist.specs.declared.inner.Shape.{Shape}
use Rattle.path_step.specs.Picks.{pick_output_of}
use Rattle.path_step.specs.declared.inner.pins.Pick.{Pick}
use Rattle.path_of_number.specs.Tasks.{Wanted}
use Rattle.path_of_number.proofs.WritingCases.{wanted-some, wanted-few, wanted_room, wanted-known, wanted-outputs, wanted-small, picked_net, picked_low, picked_high, pin-is, number_is}
use Rattle.path_of_number.proofs.WritingCases.{net-is}
use Rattle.single_simulation.specs.Simulated.{TestIs, OpenMasks}
use Rattle.record_test.specs.Records.{VectorsTrue, EdgesTrue}
use Rattle.record_test.specs.declared.inner.Vectors.{Vectors}
use Rattle.record_test.specs.declared.inner.InputEdges.{InputEdges}
use Rattle.detection_fault.specs.OpenPaths.{open_in, open_at, open_number, moved_by, LegalAsked}

-- ---- a path number, by its output

module _ (file ps cs : List ℕ) (shape : Shape) (k : ℕ) (r : Wanted file ps cs shape k) (outs : List ℕ)
    (eo : outs ≡ drop (length file - 4 * shape.outputs) file) (o : Pick) (ep : o ≡ pick_output_of outs shape.outputs shape.inputs cs k) where
  pub path-open : (masks : List ℕ) (moved : ℕ) (b : Bool) → ((N : Netlist) → CircuitTables N file ps cs shape → b ≡ open_at N masks moved o.net o.number)
      → (N : Netlist) → CircuitTables N file ps cs shape → b ≡ open_number N masks moved k
  unfolding open_at open_number path_of
  path-open masks moved b made N u =
      let same : r.circuit ≡ N = value_inj (sym r.tables.legal ∙ u.legal) in
      let high : k ≤ path_total N = subst (λ (M : Netlist). k ≤ path_total M) same r.high in
      let net : o.net ≡ output_net N (split (output_counts N) k).0 =
      net-is file ps cs shape k r outs eo o ep N u high ∙ ap (output_net N) (pin-is file ps cs shape k r outs eo o ep N u high) in
      made N u ∙ ap₂ (λ n j. all_open N (open_in masks) (bit moved) n (path_at N n n j)) net (number_is file ps cs shape k r outs eo o ep N u high)

pub ruleset path-cases = (wanted-some, wanted-few, wanted_room, wanted-known, wanted-outputs, wanted-small, picked_net, picked_low, picked_high, path-open, rules)

-- ---- the bytes of the open pins, and the pins that the model calls open

module _ (N : Netlist) (w : WellFormed N) (t : Test) (e : Edge) (masks : List ℕ) (moved : ℕ) (om : OpenMasks N t masks)
    (mm : (j : ℕ) → j < N.inputs → bit moved j ≡ has_edge t e j) where
  same-open : (ps : List ℕ) (net : ℕ) → net < nets N → T (valid_at N net ps)
      → all_open N (open_in masks) (bit moved) net ps ≡ all_open N (open_pin N t) (has_edge t e) net ps
  unfolding all_open valid_at
  same-open [] net l v = mm net (ltb→lt net N.inputs v)
  same-open (p ∷ ps) net l v =
      let g = gate-of N w net p ps v in
      let low = pin-lower N w net p g.0 l g.1 in
      ap₂ (λ a b. a && b) (om.opens net p g.0 l g.1) (same-open ps (pin_net N net p) (omega arith) g.2)

  pub open_detects : (k : ℕ) → 1 ≤ k → k ≤ path_total N → open_number N masks moved k ≡ detects_number N t e k
  unfolding open_number detects_number detects
  open_detects k a b =
      let v = valid-parts N w (path_of N k) (number-of_path N w k a b).is_path in
      same-open (path_of N k).pins (output_net N (path_of N k).output) (output-net N w (path_of N k).output v.0) v.1

-- ---- the vectors of a record, its open pins and its edges

module _ {file ps cs : List ℕ} {shape : Shape} {rec : List ℕ} {k : ℕ} (h : LegalAsked file ps cs shape rec k) where
  pub asked-inputs : shape.inputs ≤ 64
  asked-inputs = omega (arith, h.tables.inputs_are, (limits file h.circuit h.tables.legal).few_inputs)

  pub asked-length : length rec ≡ 2 + 2 * vector_bytes_of shape.inputs
  asked-length =
      eqb→eq (length rec) (2 + 2 * vector_bytes_of h.circuit.inputs) (checks→ (test_rules h.circuit rec) (record { got = tt; is = h.legal_record })).0
      ∙ ap (λ i. 2 + 2 * vector_bytes_of i) (sym h.tables.inputs_are)

  pub asked-circuit : SomeCircuit file ps shape
  asked-circuit = record { counts = cs; known = record { circuit = h.circuit; tables = h.tables } }

  pub asked-wanted : Wanted file ps cs shape k
  asked-wanted = record { circuit = h.circuit; tables = h.tables; low = h.low; high = h.high }

  module _ (class : ℕ) (v : Vectors) (ev : VectorsTrue v shape.inputs rec) (masks : List ℕ)
      (em : (N : Netlist) (xs : List ℕ) (t : Test) → CircuitTables N file ps xs shape → TestIs N t class v.v1 v.v2 → OpenMasks N t masks)
      (edges : InputEdges) (ee : EdgesTrue v edges) where
    module _ (N : Netlist) (c : CircuitTables N file ps cs shape) where
      abbrev t : Test
      t = test_of N (class_of class) rec

      i : N.inputs ≡ shape.inputs
      i = sym c.inputs_are

      first : (j : ℕ) → j < N.inputs → bit v.v1 j ≡ get_or t.v1 j false
      first j l = ev.first N (class_of class) i j (omega (arith, i))

      second : (j : ℕ) → j < N.inputs → bit v.v2 j ≡ get_or t.v2 j false
      second j l = ev.second N (class_of class) i j (omega (arith, i))

      pins-open : OpenMasks N t masks
      pins-open = em N cs t c
          (record {
            in_class = in_class_lem N (class_of class) rec;
            first_is = record { whole = vector-first N (class_of class) rec; bits = first };
            last_is = record { whole = vector-last N (class_of class) rec; bits = second };
          })

      moves : (e : Edge) (j : ℕ) → j < N.inputs → bit (moved_by edges e) j ≡ has_edge t e j
      unfolding has_edge
      moves rising j l = ee.rise j ∙ ap₂ (λ a b. not a && b) (first j l) (second j l)
      moves falling j l = ee.fall j ∙ ap₂ (λ a b. a && not b) (first j l) (second j l)

    pub asked-detects : (e : Edge) (moved : ℕ) → moved ≡ moved_by edges e → (b : Bool) → ((N : Netlist) → CircuitTables N file ps cs shape → b ≡ open_number N masks moved k)
        → (N : Netlist) → CircuitTables N file ps cs shape → b ≡ detects_number N (test_of N (class_of class) rec) e k
    asked-detects e moved em' b made N u =
        let same : h.circuit ≡ N = value_inj (sym h.tables.legal ∙ u.legal) in
        let high : k ≤ path_total N = subst (λ (M : Netlist). k ≤ path_total M) same h.high in
        made N u ∙ ap (λ m. open_number N masks m k) em'
        ∙ open_detects N (legal file N u.legal) (t N u) e masks (moved_by edges e) (pins-open N u) (moves N u e) k h.low high

pub ruleset asked-cases = (asked-inputs, asked-length, asked-circuit, asked-wanted, rules)
