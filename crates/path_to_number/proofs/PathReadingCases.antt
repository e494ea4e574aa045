-- The cases of reading a path, by what was found in its words.
use Rattle.model.proofs.Prelude.{ℕ, ◌≤◌, ◌<◌, ◌+◌, ◌-◌, ◌*◌, ◌^◌, ◌≡◌, ◌∙◌, ap, refl, sym, ap₂, ⊎_elim, true, Bool, false, ◌&&◌, List, length, get_or}
use Rattle.model.proofs.Prelude.{drop, take, length-drop, leb, T, eqb, ltb, arith, rules, le-leb, ne_eqb, eq-eqb, lt-ltb, le-ltb}
use mir.Val.{Fits}
use mir.Syntax.{w64}
use Rattle.model.specs.Base.{sum_of}
use Rattle.model.specs.Netlist.{Netlist, path_total, nets, output_counts, output_net}
use Rattle.model.specs.Path.{valid, valid_at, number_at, number_of, counts_before}
use Rattle.model.specs.Calls.{is_path, path_in}
use Rattle.model.proofs.BoolLaws.{true→T, bool_cases}
use Rattle.model.proofs.NumberLaws.{output-net, number-bounds, numbers-bounds}
use Rattle.model.proofs.ReadLaws.{legal, limits}
use Rattle.model.proofs.WellFormed.{WellFormed}
use Rattle.netlist.specs.Tables.{CircuitTables, SomeTables, output_in, output_at}
use Rattle.netlist.specs.declared.inner.Shape.{Shape}
use Rattle.record_bytes.proofs.PartLaws.{part-rest}
use Rattle.netlist.proofs.OutputLaws.{output-here}
use Rattle.netlist.proofs.TableLaws.{few-outputs, outputs-inside, output-is, output-below}
use Rattle.path_step.specs.Picks.{RecordsOfOutputs, output_counts_in}
use Rattle.path_to_number.specs.PathNumbers.{or_zero, number_in, partial_number}
use Rattle.path_step.proofs.WalkTableLaws.{outputs-before, output-counts}
use Rattle.path_step.proofs.OutputPicks.{counts-before, output-start, output-room}

chosen : (v : Bool) (a : ℕ) → v ≡ false → 0 ≡ or_zero v a
chosen v a e = rw e refl

-- one of three tests fails
middle-false : (a b c : Bool) → b ≡ false → (a && b && c) ≡ false
middle-false true b c e = rw e refl
middle-false false b c e = refl

last-false : (a b c : Bool) → c ≡ false → (a && b && c) ≡ false
last-false true true c e = e
last-false true false c e = refl
last-false false b c e = refl

-- what the functions that read the outputs are asked
module _ (file ps cs : List ℕ) (shape : Shape) (known : SomeTables file ps cs shape) where
  abbrev t : CircuitTables known.circuit file ps cs shape
  t = known.tables

  pub outputs-few : shape.outputs ≤ 64
  outputs-few = few-outputs t

  pub outputs-room : 4 * shape.outputs ≤ length file
  outputs-room = outputs-inside t

  module _ (outs : List ℕ) (eo : outs ≡ drop (length file - 4 * shape.outputs) file) (place : ℕ) (there : place < shape.outputs) where
    records : RecordsOfOutputs outs shape.outputs
    records = outputs-before t eo shape.outputs (omega arith)

    pub place-start : 4 * place ≤ length outs
    place-start = output-start outs shape.outputs records place there

    pub place-room : 4 ≤ length (take (length outs - 4 * place) (drop (4 * place) outs))
    place-room = output-room outs shape.outputs records place there

    pub place-records : RecordsOfOutputs outs place
    place-records = outputs-before t eo place (omega arith)

    pub place-net : (net : ℕ) → net ≡ output_in (take (length outs - 4 * place) (drop (4 * place) outs)) → net < shape.nets
    place-net net en =
        let is : net ≡ output_net known.circuit place =
        output-here outs place net en ∙ ap (λ (x : List ℕ). output_at x place) eo ∙ output-is t place there in
        omega (arith, is, output-below t place there)

    pub place-sum : sum_of (output_counts_in outs place shape.inputs cs) ≤ 2 ^ 62
    unfolding path_total
    place-sum =
        let all : sum_of (output_counts_in outs shape.outputs shape.inputs cs) ≡ sum_of (output_counts known.circuit) =
        ap sum_of (output-counts t eo) in
        let part = counts-before outs shape.outputs shape.inputs cs place (omega arith) in
        omega (arith, all, part.1, (limits file known.circuit t.legal).total_fits)

-- what the words are
module _ (file ps cs : List ℕ) (shape : Shape) (ws : List ℕ) where
  -- fewer words have no pin
  pub words-short : length ws < 3 → (N : Netlist) → CircuitTables N file ps cs shape → 0 ≡ number_in N ws
  unfolding number_in valid
  words-short h N t =
      let none : ltb 0 (length (drop 2 ws)) ≡ false = le-ltb 0 (length (drop 2 ws)) (omega (arith, length-drop 2 ws)) in
      let out = ltb (get_or ws 0 0) (length N.outputs) in
      let rest = valid_at N (output_net N (get_or ws 0 0)) (drop 2 ws) in
      let bare : valid N (path_in ws) ≡ false = middle-false out (ltb 0 (length (drop 2 ws))) rest none in
      chosen (is_path N ws) _ (last-false (leb 2 (length ws)) (eqb (length ws) (2 + get_or ws 1 0)) (valid N (path_in ws)) bare)

  module _ (long : 3 ≤ length ws) (pins : ℕ) (ep : pins ≡ get_or ws 1 0) where
    two : 2 ≤ length ws
    two = omega arith

    pub words_long : (length ws ≡ 2 + pins → ⊥) → (N : Netlist) → CircuitTables N file ps cs shape → 0 ≡ number_in N ws
    unfolding number_in
    words_long h N t = rw (le-leb 2 (length ws) two, ← ep, ne_eqb (length ws) (2 + pins) h) refl

    module _ (exact : length ws ≡ 2 + pins) (place : ℕ) (eo : place ≡ get_or ws 0 0) where
      -- then the words are a path where it is valid
      is-valid : (N : Netlist) → is_path N ws ≡ valid N (path_in ws)
      is-valid N = rw (le-leb 2 (length ws) two, ← ep, eq-eqb (length ws) (2 + pins) exact) refl

      pub words-output : shape.outputs ≤ place → (N : Netlist) → CircuitTables N file ps cs shape → 0 ≡ number_in N ws
      unfolding number_in valid
      words-output h N t =
          let l : length N.outputs ≤ get_or ws 0 0 = omega (arith, t.outputs_are) in
          chosen (is_path N ws) _ (is-valid N ∙ rw (le-ltb (get_or ws 0 0) (length N.outputs) l) refl)

      module _ (there : place < shape.outputs) (outs : List ℕ) (ee : outs ≡ drop (length file - 4 * shape.outputs) file) (net : ℕ)
          (en : net ≡ output_in (take (length outs - 4 * place) (drop (4 * place) outs))) (rest : ℕ)
          (er : (N : Netlist) → CircuitTables N file ps cs shape → rest ≡ partial_number N net (take (length ws - 2) (drop 2 ws))) where
        module _ (N : Netlist) (t : CircuitTables N file ps cs shape) where
          w : WellFormed N
          w = legal file N t.legal

          abbrev start : ℕ
          start = output_net N (get_or ws 0 0)

          net-is : net ≡ start
          net-is =
              output-here outs place net en ∙ ap (λ (x : List ℕ). output_at x place) ee ∙ output-is t place there
              ∙ ap (output_net N) eo

          here : get_or ws 0 0 < length N.outputs
          here = omega (arith, t.outputs_are)

          rest-is : rest ≡ or_zero (valid_at N start (drop 2 ws)) (number_at N start (drop 2 ws))
          unfolding partial_number
          rest-is = er N t ∙ ap₂ (λ x (y : List ℕ). partial_number N x y) net-is (part-rest 2 ws)

          valid-is : is_path N ws ≡ valid_at N start (drop 2 ws)
          unfolding valid
          valid-is =
              let some : 0 < length (drop 2 ws) = omega (arith, length-drop 2 ws) in
              is-valid N ∙ rw (lt-ltb (get_or ws 0 0) (length N.outputs) here, lt-ltb 0 (length (drop 2 ws)) some) refl

          at_least : valid_at N start (drop 2 ws) ≡ true → 1 ≤ number_at N start (drop 2 ws)
          at_least v = (number-bounds N w (drop 2 ws) start (output-net N w (get_or ws 0 0) here) (true→T (valid_at N start (drop 2 ws)) v)).0

        pub words-none : rest ≡ 0 → (N : Netlist) → CircuitTables N file ps cs shape → 0 ≡ number_in N ws
        unfolding number_in
        words-none z N t =
            ⊎_elim
            (λ v. absurd (let q : rest ≡ number_at N (start N t) (drop 2 ws) = rest-is N t ∙ rw v refl in omega (arith, q, at_least N t v)))
            (λ v. chosen (is_path N ws) _ (valid-is N t ∙ v))
            (bool_cases (valid_at N (start N t) (drop 2 ws)))

        module _ (some : rest ≡ 0 → ⊥) (b : ℕ) (eb : b ≡ sum_of (output_counts_in outs place shape.inputs cs)) where
          module _ (N : Netlist) (t : CircuitTables N file ps cs shape) where
            v : valid_at N (start N t) (drop 2 ws) ≡ true
            v = ⊎_elim (λ v. v) (λ v. absurd (some (rest-is N t ∙ rw v refl))) (bool_cases (valid_at N (start N t) (drop 2 ws)))

            before : b ≡ counts_before (get_or ws 0 0) (output_counts N)
            before =
                eb ∙ (counts-before outs shape.outputs shape.inputs cs place (omega arith)).0
                ∙ ap₂ (λ k (x : List ℕ). counts_before k x) eo
                (output-counts t ee)

            whole_is : rest + b ≡ number_of N (path_in ws)
            unfolding number_of
            whole_is = ap₂ (λ x y. x + y) (rest-is N t ∙ rw v refl) before

            is-path : T (valid N (path_in ws))
            is-path = true→T (valid N (path_in ws)) (sym (is-valid N) ∙ valid-is N t ∙ v)

          pub words-fits : SomeTables file ps cs shape → Fits w64 (rest + b)
          words-fits known =
              let N = known.circuit in
              let t = known.tables in
              record { fits = omega (arith, whole_is N t, (numbers-bounds N (legal file N t.legal) (path_in ws) (is-path N t)).1, (limits file N t.legal).total_fits) }

          pub words-done : (N : Netlist) → CircuitTables N file ps cs shape → rest + b ≡ number_in N ws
          unfolding number_in
          words-done N t = whole_is N t ∙ sym (ap (λ (c : Bool). or_zero c (number_of N (path_in ws))) (valid-is N t ∙ v N t))

pub ruleset reading-cases = (
  outputs-few,
  outputs-room,
  place-start,
  place-room,
  place-records,
  place-net,
  place-sum,
  words-short,
  words_long,
  words-output,
  words-none,
  words-fits,
  words-done,
  rules,
)
