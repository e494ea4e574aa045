-- What the vectors of a record say to the place Work: its open pins and its edges.
use Rattle.model.proofs.Prelude.{ℕ, ◌≤◌, ◌<◌, ◌+◌, ◌*◌, ◌≡◌, ◌∙◌, ap, refl, sym, subst, ap₂, false, ◌&&◌, not, List, length, get_or, eqb→eq}
use Rattle.model.proofs.Prelude.{arith}
use Rattle.model.specs.Base.{Answer, value, checks, bit}
use Rattle.model.specs.Netlist.{Netlist, path_total}
use Rattle.model.specs.Detect.{Test, has_edge}
use Rattle.model.specs.Read.{test_rules, class_of, test_of, vector_bytes_of}
use Rattle.model.specs.Store.{store_rules}
use Rattle.model.specs.Calls.{Tested}
use Rattle.model.proofs.AnswerLaws.{checks→, value_inj, checks-both}
use Rattle.model.proofs.ReadLaws.{limits, in_class_lem, vector-first, vector-last}
use Rattle.netlist.specs.Tables.{CircuitTables, SomeCircuit}
use Rattle.netlist.specs.declared.inner.Shape.{Shape}
use Rattle.record_test.specs.Records.{VectorsTrue, EdgesTrue}
use Rattle.single_simulation.specs.Simulated.{TestIs, OpenMasks}
use Rattle.record_test.specs.declared.inner.Vectors.{Vectors}
use Rattle.record_test.specs.declared.inner.InputEdges.{InputEdges}
use Rattle.store_coverage.specs.Stage.{place_rules, work_stage, StageIs}
use Rattle.single_stage.specs.LegalStage.{PinsOf, LegalReady, WorkReady, StageTrue}
use Rattle.store_coverage.proofs.StageLaws.{stage-work}
use Rattle.std.specs.Prelude.{Result}
use Rattle.model.specs.declared.Refusal.{Refusal}

module _ {file ps cs : List ℕ} {shape : Shape} {rec ws work : List ℕ} (h : LegalReady file ps cs shape rec ws work) where
  pub legal-inputs : shape.inputs ≤ 64
  legal-inputs = omega (arith, h.stage.tables.inputs_are, (limits file h.stage.circuit h.stage.tables.legal).few_inputs)

  pub legal-length : length rec ≡ 2 + 2 * vector_bytes_of shape.inputs
  legal-length =
      eqb→eq (length rec) (2 + 2 * vector_bytes_of h.stage.circuit.inputs)
      (checks→ (test_rules h.stage.circuit rec) (record { got = tt; is = h.legal_record })).0
      ∙ ap (λ i. 2 + 2 * vector_bytes_of i) (sym h.stage.tables.inputs_are)

  pub legal-circuit : SomeCircuit file ps shape
  legal-circuit = record { counts = cs; known = record { circuit = h.stage.circuit; tables = h.stage.tables } }

  module _ {class : ℕ} {v : Vectors} (ev : VectorsTrue v shape.inputs rec) {masks : List ℕ}
      (em : (N : Netlist) (xs : List ℕ) (t : Test) → CircuitTables N file ps xs shape → TestIs N t class v.v1 v.v2 → OpenMasks N t masks)
      {edges : InputEdges} (ee : EdgesTrue v edges) where
    pins-of : (N : Netlist) → CircuitTables N file ps cs shape → PinsOf N (test_of N (class_of class) rec) masks edges
    unfolding has_edge
    pins-of N c =
        let i : N.inputs ≡ shape.inputs = sym c.inputs_are in
        let first : (j : ℕ) → j < N.inputs → bit v.v1 j ≡ get_or (test_of N (class_of class) rec).v1 j false =
        λ j l. ev.first N (class_of class) i j (omega (arith, i)) in
        let second : (j : ℕ) → j < N.inputs → bit v.v2 j ≡ get_or (test_of N (class_of class) rec).v2 j false =
        λ j l. ev.second N (class_of class) i j (omega (arith, i)) in
        record {
          open_pins = em N cs (test_of N (class_of class) rec) c
              (record {
                in_class = in_class_lem N (class_of class) rec;
                first_is = record { whole = vector-first N (class_of class) rec; bits = first };
                last_is = record { whole = vector-last N (class_of class) rec; bits = second };
              });
          rise = λ j l. ee.rise j ∙ ap₂ (λ a b. not a && b) (first j l) (second j l);
          fall = λ j l. ee.fall j ∙ ap₂ (λ a b. a && not b) (first j l) (second j l);
        }

    pub legal-work : WorkReady file ps cs masks edges shape ws work
    legal-work = record {
      stage = h.stage;
      test = test_of h.stage.circuit (class_of class) rec;
      pins = pins-of h.stage.circuit h.stage.tables;
    }

    pub legal-taken : {ws' work' : List ℕ} {r : (Result (Unit {0}) Refusal)}
        → ((N : Netlist) (t : Test) → CircuitTables N file ps cs shape → PinsOf N t masks edges → StageIs (work_stage N t ws) ws ws' work work' r)
        → (N : Netlist) → CircuitTables N file ps cs shape → StageTrue N (class_of class) rec ws ws' work work' r
    legal-taken {ws' = ws'} {work' = work'} {r = r} made N c =
        let m : h.stage.circuit ≡ N = value_inj (sym h.stage.tables.legal ∙ c.legal) in
        let t : checks (test_rules N rec) ≡ value tt = subst (λ M. checks (test_rules M rec) ≡ value tt) m h.legal_record in
        let s : checks (store_rules (path_total N) ws) ≡ value tt = subst (λ M. checks (store_rules (path_total M) ws) ≡ value tt) m h.stage.memory.sound in
        let p : value tt ≡ checks (place_rules N rec ws) = sym (checks-both (test_rules N rec) (store_rules (path_total N) ws) ∙ rw (t, s) refl) in
        subst (λ (a : Answer Tested). StageIs a ws ws' work work' r) (sym (stage-work N (class_of class) rec ws p)) (made N (test_of N (class_of class) rec) c (pins-of N c))
