-- A line judged, by its statement.
use Rattle.model.proofs.Prelude.{ℕ, ◌≤◌, ◌<◌, ◌+◌, ◌*◌, ◌≡◌, ◌∙◌, ap, refl, sym, subst, ◌&&◌, List, [], ◌∷◌, ◌++◌, length, ltb, ltb→lt, arith}
use Rattle.model.specs.Base.{Rule, checks}
use Rattle.model.specs.Read.{pins_fit}
use Rattle.model.proofs.BoolLaws.{and_left}
use Rattle.model.proofs.AnswerLaws.{checks→}
use Rattle.bench_lines.specs.Text.{Statement, blank, input, output, gate, other, tokens_of, statement_of}
use Rattle.bench_lines.specs.LineReading.{part, NameIn}
use Rattle.bench_lines.specs.Keys.{AllNamed}
use Rattle.bench_lines.specs.Stating.{GateAt, InputAt, OutputAt, LineStated}
use Rattle.bench_circuit.specs.Circuit.{GateLine, Circuit, line_rules, added}
use Rattle.bench_names.specs.NameNets.{NamesRoom}
use Rattle.bench_circuit.specs.Judging.{PutAfter, PinsNamed, NameJudged, input_rules, InputJudged, output_rules, OutputJudged, gate_rules, GateJudged, NamesHeld, Held, HeldRoom}
use Rattle.bench_circuit.specs.Judging.{LineJudged, RoomAfter, LineTrue, counted_as}
use Rattle.model.specs.declared.Refusal.{Refusal}
use Rattle.model.specs.declared.Refusal.TheVariants as why
use Rattle.bench_lines.specs.declared.inner.statements.GateParts.{GateParts}
use Rattle.bench_lines.specs.declared.inner.statements.LineStatement.{LineStatement}
use Rattle.bench_lines.specs.declared.inner.statements.LineStatement.TheVariants as stated
use Rattle.bench_circuit.specs.declared.inner.judging.NameCounts.{NameCounts}
use Rattle.bench_lines.proofs.StatementLaws.{stated-as}
use Rattle.bench_circuit.proofs.CircuitLaws.{names-snoc}
use Rattle.bench_circuit.proofs.JudgeCases.{input-rules, output-rules, gate-rules, held_more, set-two}
use Rattle.std.specs.Prelude.{Result, Ok, Err}

pub room-names : (is gs os : List ℕ) (n : NameCounts) → HeldRoom is gs os n → NamesRoom is n.inputs gs n.gates
room-names is gs os n r = record {
  input_words = r.words.input_words;
  gate_words = r.words.gate_words;
  few_inputs = r.few_inputs;
  few_gates = r.few_gates;
}

pub room-outputs : (is gs os : List ℕ) (n : NameCounts) → HeldRoom is gs os n → 2 * n.outputs ≤ length os
room-outputs is gs os n r = omega (arith, r.words.output_words, r.few_outputs)

-- the answer to a name, counted
pub counted-no : (a : Result (Unit {0}) Refusal) (i g o : ℕ) (w : Refusal) → a ≡ Err w
    → Err w ≡ counted_as a i g o
counted-no a i g o w e = sym (ap (λ (x : Result (Unit {0}) Refusal). counted_as x i g o) e)

pub counted-yes : (a : Result (Unit {0}) Refusal) (i g o : ℕ) → a ≡ Ok tt
    → Ok (record { inputs = i; gates = g; outputs = o }) ≡ counted_as a i g o
counted-yes a i g o e = sym (ap (λ (x : Result (Unit {0}) Refusal). counted_as x i g o) e)

pins-more : (gs : List GateLine) (g : GateLine) → PinsNamed gs → AllNamed g.pins → PinsNamed (gs ++ (g ∷ []))
unfolding PinsNamed
pins-more [] g a b = (b, tt)
pins-more (h ∷ gs) g a b = (a.0, pins-more gs g a.1 b)

abbrev counts : ℕ → ℕ → ℕ → NameCounts
counts i g o = record { inputs = i; gates = g; outputs = o }

module _ (l is gs os : List ℕ) (n : NameCounts) (room : HeldRoom is gs os n) (st : LineStatement) (k : LineStated st l) where
  judged-as : (r : Result NameCounts Refusal) (s : Statement) (is' gs' os' : List ℕ) → statement_of (tokens_of l) ≡ s
      → ((c : Circuit) → Held is gs os n c → LineJudged r c s is' gs' os')
      → RoomAfter r is' gs' os' → LineTrue r l n is gs os is' gs' os'
  judged-as r s is' gs' os' e f w = record {
    judged = λ c h. subst (λ (q : Statement). LineJudged r c q is' gs' os') (sym e) (f c h);
    room = w;
  }

  pub line-blank : st ≡ stated.Blank → LineTrue (Ok n) l n is gs os is gs os
  unfolding line_rules added
  line-blank e =
      judged-as (Ok n) blank is gs os (stated-as l k e) (λ c h. record { passed = refl; held = h }) room

  pub line_other : (is' gs' os' : List ℕ) → st ≡ stated.Other
      → LineTrue (Err why.BenchLine) l n is gs os is' gs' os'
  unfolding line_rules
  line_other is' gs' os' e =
      judged-as (Err why.BenchLine) other is' gs' os' (stated-as l k e) (λ c h. refl) tt

  -- ---- an input

  module _ (f t : ℕ) (e : st ≡ stated.Input f t) where
    in_at : InputAt f t l (statement_of (tokens_of l))
    in_at = stated-as l k e

    pub line-input-name : NameIn f t l
    line-input-name = in_at.is_name

    module _ (a : Result (Unit {0}) Refusal) (is' : List ℕ) (j : InputJudged a (part f t l) is is' n.inputs gs n.gates) where
      abbrev in_rules : List Rule
      in_rules = input_rules is n.inputs gs n.gates (part f t l)

      in_checks : {c : Circuit} → Held is gs os n c → checks (line_rules c (input (part f t l))) ≡ checks in_rules
      in_checks h = ap checks (sym (input-rules h (part f t l) in_at.is_name.named))

      line-input-no : (w : Refusal) (is'' gs'' os'' : List ℕ) → a ≡ Err w
          → LineTrue (Err w) l n is gs os is'' gs'' os''
      line-input-no w is'' gs'' os'' q =
          let z : NameJudged (Err w) in_rules = subst (λ (x : Result (Unit {0}) Refusal). NameJudged x in_rules) q j.judged in
          judged-as (Err w) (input (part f t l)) is'' gs'' os'' in_at.is (λ c h. in_checks h ∙ z) tt

      line-input-yes : a ≡ Ok tt
          → LineTrue (Ok (counts (n.inputs + 1) n.gates n.outputs)) l n is gs os is' gs os
      unfolding added
      line-input-yes q =
          let j' : InputJudged (Ok tt) (part f t l) is is' n.inputs gs n.gates =
          subst (λ (x : Result (Unit {0}) Refusal). InputJudged x (part f t l) is is' n.inputs gs n.gates) q j in
          let p = checks→ in_rules (record { got = tt; is = j'.judged }) in
          let few : n.inputs < 64 =
          ltb→lt n.inputs 64 (and_left (ltb n.inputs 64) (ltb (n.inputs + n.gates) 512) p.1.0) in
          let fits : 2 * n.inputs + 1 < length is = omega (arith, few, room.words.input_words) in
          judged-as (Ok (counts (n.inputs + 1) n.gates n.outputs)) (input (part f t l)) is' gs os in_at.is
          (λ c h. record {
            passed = in_checks h ∙ j'.judged;
            held = record {
              inputs = held_more h.inputs in_at.is_name.named fits j'.put;
              gates = h.gates;
              outputs = h.outputs;
              pins = h.pins;
            };
          })
          (record {
            words = record {
              input_words = set-two is is' _ _ _ _ j'.put ∙ room.words.input_words;
              gate_words = room.words.gate_words;
              output_words = room.words.output_words;
            };
            few_inputs = omega (arith, few);
            few_gates = room.few_gates;
            few_outputs = room.few_outputs;
          })

      pub line-input : (r : Result NameCounts Refusal) → r ≡ counted_as a (n.inputs + 1) n.gates n.outputs
          → LineTrue r l n is gs os is' gs os
      line-input r q = subst (λ (y : Result NameCounts Refusal). LineTrue y l n is gs os is' gs os) (sym q) (go a refl)
        where
          go : (b : Result (Unit {0}) Refusal) → a ≡ b
              → LineTrue (counted_as b (n.inputs + 1) n.gates n.outputs) l n is gs os is' gs os
          go (Ok tt) u = line-input-yes u
          go (Err w) u = line-input-no w is' gs os u

  -- ---- an output

  module _ (f t : ℕ) (e : st ≡ stated.Output f t) where
    out_at : OutputAt f t l (statement_of (tokens_of l))
    out_at = stated-as l k e

    pub line-output-name : NameIn f t l
    line-output-name = out_at.is_name

    module _ (a : Result (Unit {0}) Refusal) (os' : List ℕ) (j : OutputJudged a (part f t l) os os' n.outputs) where
      abbrev out-rules : List Rule
      out-rules = output_rules os n.outputs (part f t l)

      out-checks : {c : Circuit} → Held is gs os n c → checks (line_rules c (output (part f t l))) ≡ checks out-rules
      out-checks h = ap checks (sym (output-rules h (part f t l) out_at.is_name.named))

      line-output-no : (w : Refusal) (is'' gs'' os'' : List ℕ) → a ≡ Err w
          → LineTrue (Err w) l n is gs os is'' gs'' os''
      line-output-no w is'' gs'' os'' q =
          let z : NameJudged (Err w) out-rules =
          subst (λ (x : Result (Unit {0}) Refusal). NameJudged x out-rules) q j.judged in
          judged-as (Err w) (output (part f t l)) is'' gs'' os'' out_at.is (λ c h. out-checks h ∙ z) tt

      line-output-yes : a ≡ Ok tt
          → LineTrue (Ok (counts n.inputs n.gates (n.outputs + 1))) l n is gs os is gs os'
      unfolding added
      line-output-yes q =
          let j' : OutputJudged (Ok tt) (part f t l) os os' n.outputs =
          subst (λ (x : Result (Unit {0}) Refusal). OutputJudged x (part f t l) os os' n.outputs) q j in
          let p = checks→ out-rules (record { got = tt; is = j'.judged }) in
          let few : n.outputs < 64 = ltb→lt n.outputs 64 p.1.0 in
          let fits : 2 * n.outputs + 1 < length os = omega (arith, few, room.words.output_words) in
          judged-as (Ok (counts n.inputs n.gates (n.outputs + 1))) (output (part f t l)) is gs os'
          out_at.is
          (λ c h. record {
            passed = out-checks h ∙ j'.judged;
            held = record {
              inputs = h.inputs;
              gates = h.gates;
              outputs = held_more h.outputs out_at.is_name.named fits j'.put;
              pins = h.pins;
            };
          })
          (record {
            words = record {
              input_words = room.words.input_words;
              gate_words = room.words.gate_words;
              output_words = set-two os os' _ _ _ _ j'.put ∙ room.words.output_words;
            };
            few_inputs = room.few_inputs;
            few_gates = room.few_gates;
            few_outputs = omega (arith, few);
          })

      pub line-output : (r : Result NameCounts Refusal) → r ≡ counted_as a n.inputs n.gates (n.outputs + 1)
          → LineTrue r l n is gs os is gs os'
      line-output r q = subst (λ (y : Result NameCounts Refusal). LineTrue y l n is gs os is gs os') (sym q) (go a refl)
        where
          go : (b : Result (Unit {0}) Refusal) → a ≡ b
              → LineTrue (counted_as b n.inputs n.gates (n.outputs + 1)) l n is gs os is gs os'
          go (Ok tt) u = line-output-yes u
          go (Err w) u = line-output-no w is gs os' u

  -- ---- a gate

  module _ (parts : GateParts) (e : st ≡ stated.Gate parts) where
    abbrev x : List ℕ
    x = part parts.from parts.to l

    abbrev kind : ℕ
    kind = parts.kind

    gate-at : GateAt parts.from parts.to parts.kind parts.at parts.pins l (statement_of (tokens_of l))
    gate-at = stated-as l k e

    abbrev ys : List (List ℕ)
    ys = gate-at.names

    pub line-gate-name : NameIn parts.from parts.to l
    line-gate-name = gate-at.is_name

    pub line-gate-inside : parts.at ≤ length l
    line-gate-inside = gate-at.inside

    module _ (a : Result (Unit {0}) Refusal) (gs' : List ℕ) (j : GateJudged a l parts is n.inputs gs gs' n.gates) where
      abbrev pin-rules : List Rule
      pin-rules = gate_rules is n.inputs gs n.gates x kind ys

      pin-checks : {c : Circuit} → Held is gs os n c → checks (line_rules c (gate x kind ys)) ≡ checks pin-rules
      pin-checks h = ap checks (sym (gate-rules h x kind ys gate-at.is_name.named gate-at.all_named))

      gate-judged : NameJudged a pin-rules
      gate-judged = j.judged ys gate-at.reads gate-at.count

      line-gate-no : (w : Refusal) (is'' gs'' os'' : List ℕ) → a ≡ Err w
          → LineTrue (Err w) l n is gs os is'' gs'' os''
      line-gate-no w is'' gs'' os'' q =
          let z : NameJudged (Err w) pin-rules =
          subst (λ (y : Result (Unit {0}) Refusal). NameJudged y pin-rules) q gate-judged in
          judged-as (Err w) (gate x kind ys) is'' gs'' os'' gate-at.is (λ c h. pin-checks h ∙ z) tt

      line-gate-yes : a ≡ Ok tt
          → LineTrue (Ok (counts n.inputs (n.gates + 1) n.outputs)) l n is gs os is gs' os
      unfolding added
      line-gate-yes q =
          let z : NameJudged (Ok tt) pin-rules =
          subst (λ (y : Result (Unit {0}) Refusal). NameJudged y pin-rules) q gate-judged in
          let put : PutAfter (Ok tt) gs gs' n.gates x =
          subst (λ (y : Result (Unit {0}) Refusal). PutAfter y gs gs' n.gates x) q j.put in
          let g : GateLine = record { name = x; kind = kind; pins = ys } in
          let range = ltb n.gates 511 && ltb (n.inputs + n.gates) 512 in
          let p = checks→ pin-rules (record { got = tt; is = z }) in
          let both = and_left range (pins_fit kind (length ys)) p.1.0 in
          let few : n.gates < 511 =
          ltb→lt n.gates 511 (and_left (ltb n.gates 511) (ltb (n.inputs + n.gates) 512) both) in
          let fits : 2 * n.gates + 1 < length gs = omega (arith, few, room.words.gate_words) in
          judged-as (Ok (counts n.inputs (n.gates + 1) n.outputs)) (gate x kind ys) is gs' os gate-at.is
          (λ c h. record {
            passed = pin-checks h ∙ z;
            held = record {
              inputs = h.inputs;
              gates = subst (NamesHeld gs' (n.gates + 1)) (sym (names-snoc c.gates g))
                  (held_more h.gates gate-at.is_name.named fits put);
              outputs = h.outputs;
              pins = pins-more c.gates g h.pins gate-at.all_named;
            };
          })
          (record {
            words = record {
              input_words = room.words.input_words;
              gate_words = set-two gs gs' _ _ _ _ put ∙ room.words.gate_words;
              output_words = room.words.output_words;
            };
            few_inputs = room.few_inputs;
            few_gates = omega (arith, few);
            few_outputs = room.few_outputs;
          })

      pub line-gate : (r : Result NameCounts Refusal) → r ≡ counted_as a n.inputs (n.gates + 1) n.outputs
          → LineTrue r l n is gs os is gs' os
      line-gate r q = subst (λ (y : Result NameCounts Refusal). LineTrue y l n is gs os is gs' os) (sym q) (go a refl)
        where
          go : (b : Result (Unit {0}) Refusal) → a ≡ b
              → LineTrue (counted_as b n.inputs (n.gates + 1) n.outputs) l n is gs os is gs' os
          go (Ok tt) u = line-gate-yes u
          go (Err w) u = line-gate-no w is gs' os u
