-- The cases of the call: the class, the record, the fault's number, then the answer.
use Rattle.model.proofs.Prelude.{ℕ, ◌≤◌, ◌<◌, ◌*◌, ◌≡◌, ◌∙◌, ap, refl, sym, ap₂, true, Bool, false, not, and-false, List, [], ◌∷◌, leb, arith, rules}
use Rattle.model.proofs.Prelude.{le-leb, lt-leb, not-true, not-false}
use Rattle.model.specs.Base.{Answer, refused, value, ◌then◌, checks}
use Rattle.model.specs.Netlist.{Netlist, path_total}
use Rattle.model.specs.Path.{Edge, edge_of_fault, path_of_fault}
use Rattle.model.specs.Detect.{detects_number}
use Rattle.model.specs.Read.{within, read_netlist, class_of, test_rules, test_of}
use Rattle.model.specs.Refusals.{refusal_number_of}
use Rattle.model.specs.declared.Refusal.{Refusal}
use Rattle.model.specs.declared.Refusal.TheVariants as why
use Rattle.model.proofs.AnswerLaws.{checks-both, value_inj}
use Rattle.model.proofs.ReadLaws.{limits}
use Rattle.netlist.specs.Answers.{LegalLoad, LoadTrue}
use Rattle.netlist.specs.Tables.{CircuitTables}
use Rattle.netlist.specs.declared.inner.Shape.{Shape}
use Rattle.netlist.proofs.LoadCases.{zeros-are}
use Rattle.record_test.specs.Records.{RecordTrue}
use Rattle.detection_fault.specs.Detection.{detects_fault, detection_on, detection_call}
use Rattle.detection_fault.specs.OpenPaths.{Asked, LegalAsked}
use Rattle.std.specs.Prelude.{Result, Ok, Err}
use Rattle.netlist.specs.declared.inner.LegalNetlist.{LegalNetlist}
use Rattle.model.specs.Returned.{answer_of}

module _ (file ps cs : List ℕ) (shape : Shape) (total : ℕ) (a : Asked file ps cs shape total) where
  pub on-some-input : 1 ≤ shape.inputs
  on-some-input = omega (arith, a.tables.inputs_are, (limits file a.circuit a.tables.legal).some_input)

  pub on-few-inputs : shape.inputs ≤ 64
  on-few-inputs = omega (arith, a.tables.inputs_are, (limits file a.circuit a.tables.legal).few_inputs)

  -- what is shown of the circuit at hand holds of every netlist that has these tables
  every : (x : Answer Bool) (class fault : ℕ) (rec : List ℕ) → x ≡ detection_on a.circuit class rec fault
      → (N : Netlist) → CircuitTables N file ps cs shape → x ≡ detection_on N class rec fault
  every x class fault rec e N u = e ∙ ap (λ (M : Netlist). detection_on M class rec fault) (value_inj (sym a.tables.legal ∙ u.legal))

  module _ (class fault : ℕ) (rec : List ℕ) (k : Bool) (ek : k ≡ within 1 2 class) where
    pub on-unknown : not k ≡ true → (N : Netlist) → CircuitTables N file ps cs shape → answer_of (Err why.UnknownClass) ≡ detection_on N class rec fault
    unfolding detection_on
    on-unknown h N u = let q : within 1 2 class ≡ false = sym ek ∙ not-true k h in rw q refl

    module _ (h : not k ≡ false) (r : Result (Unit {0}) Refusal) (rt : RecordTrue r shape.inputs rec) where
      abbrev N : Netlist
      N = a.circuit

      in_range : Bool
      in_range = within 1 (2 * path_total N) fault

      found : Bool
      found = detects_fault N (test_of N (class_of class) rec) fault

      as_asked : (x : Answer (Unit {0})) → answer_of r ≡ x → (x then checks ((60, in_range) ∷ []) then value found) ≡ detection_on N class rec fault
      unfolding detection_on in_range found
      as_asked x e =
          let q : within 1 2 class ≡ true = sym ek ∙ not-false k h in
          ap (λ (y : Answer (Unit {0})). y then checks ((60, in_range) ∷ []) then value found) (sym e ∙ rt.answer N (sym a.tables.inputs_are))
          ∙ ap (λ (y : Answer (Unit {0})). y then value found) (sym (checks-both (test_rules N rec) ((60, in_range) ∷ [])))
          ∙ rw q refl

      pub on-record : (w : Refusal) → r ≡ Err w
          → (M : Netlist) → CircuitTables M file ps cs shape → answer_of (Err w) ≡ detection_on M class rec fault
      on-record w e = every (refused (refusal_number_of w)) class fault rec (as_asked (refused (refusal_number_of w)) (ap answer_of e))

      module _ (e : r ≡ Ok tt) (number : ℕ) (en : number ≡ path_of_fault fault) where
        legal-asked : (checks ((60, in_range) ∷ []) then value found) ≡ detection_on N class rec fault
        legal-asked = as_asked (value tt) (ap answer_of e)

        pub on-low : number < 1 → (M : Netlist) → CircuitTables M file ps cs shape → answer_of (Err why.NoSuchNumber) ≡ detection_on M class rec fault
        unfolding in_range
        on-low z =
            let low : fault < 1 = omega arith in
            every (refused 60) class fault rec (rw (lt-leb 1 fault low) at legal-asked)

        pub on-high : total < number → (M : Netlist) → CircuitTables M file ps cs shape → answer_of (Err why.NoSuchNumber) ≡ detection_on M class rec fault
        unfolding in_range
        on-high z =
            let high : 2 * path_total N < fault = omega (arith, a.total_is) in
            every (refused 60) class fault rec (rw (lt-leb fault (2 * path_total N) high, and-false (leb 1 fault)) at legal-asked)

        module _ (some : 1 ≤ number) (few : number ≤ total) where
          pub on-legal : LegalAsked file ps cs shape rec number
          on-legal = record {
            circuit = N;
            tables = a.tables;
            legal_record = sym (rt.answer N (sym a.tables.inputs_are)) ∙ ap answer_of e;
            low = some;
            high = omega (arith, a.total_is);
          }

          module _ (d : Edge) (de : d ≡ edge_of_fault fault) (b : Bool)
              (made : (M : Netlist) → CircuitTables M file ps cs shape → b ≡ detects_number M (test_of M (class_of class) rec) d number) where
            answered : (v : Bool) → b ≡ v → value v ≡ detection_on N class rec fault
            unfolding in_range found detects_fault
            answered v t =
                let low : 1 ≤ fault = omega arith in
                let high : fault ≤ 2 * path_total N = omega (arith, a.total_is) in
                let f : v ≡ found = sym t ∙ made N a.tables ∙ ap₂ (λ (x : Edge) (y : ℕ). detects_number N (test_of N (class_of class) rec) x y) de en in
                ap value f ∙ (rw (le-leb 1 fault low, le-leb fault (2 * path_total N) high) at legal-asked)

            pub on-detected : b ≡ true → (M : Netlist) → CircuitTables M file ps cs shape → answer_of (Ok true) ≡ detection_on M class rec fault
            on-detected t = every (value true) class fault rec (answered true t)

            pub on-not : b ≡ false → (M : Netlist) → CircuitTables M file ps cs shape → answer_of (Ok false) ≡ detection_on M class rec fault
            on-not t = every (value false) class fault rec (answered false t)

pub ruleset on-cases = (on-some-input, on-few-inputs, on-unknown, on-record, on-low, on-high, on-legal, on-detected, on-not, rules)

-- ---- the netlist

module _ (file cs ps : List ℕ) (l : Result LegalNetlist Refusal) (t : LoadTrue l file cs ps) (class fault : ℕ) (rec : List ℕ) where
  pub call-refused : (w : Refusal) → l ≡ Err w → answer_of (Err w) ≡ detection_call file class rec fault
  unfolding detection_call
  call-refused w e = let n : read_netlist file ≡ refused (refusal_number_of w) = rw e at t in rw n refl

  module _ (l0 : LegalNetlist) (e : l ≡ Ok l0) where
    here : LegalLoad file cs ps l0.shape l0.total
    here = rw e at t

    pub call-asked : Asked file ps cs l0.shape l0.total
    call-asked = record { circuit = here.circuit; tables = here.tables; total_is = here.total_is }

    pub call-answered : (r : Result Bool Refusal) → ((N : Netlist) → CircuitTables N file ps cs l0.shape → answer_of r ≡ detection_on N class rec fault)
        → answer_of r ≡ detection_call file class rec fault
    unfolding detection_call
    call-answered r made = made here.circuit here.tables ∙ rw here.tables.legal refl

pub ruleset call-cases = (zeros-are, call-refused, call-asked, call-answered, rules)
