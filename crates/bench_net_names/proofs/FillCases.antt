-- The table is filled: nothing where the text is refused, or the keys of its inputs and, after them, of its gates.
use Rattle.model.proofs.Prelude.{ℕ, ◌≤◌, ◌+◌, ◌*◌, ◌≡◌, ◌∙◌, ap, sym, subst, List, [], ◌∷◌, ◌++◌, length, get_or, drop, take, length-append, sets}
use Rattle.model.proofs.Prelude.{get_or-drop, length-sets, take_at, sets-eq, arith, rules}
use mir.Val.{Fits}
use mir.Syntax.{w64}
use Rattle.model.specs.Base.{Answer, refused, value, ◌into◌, ◌then◌, checks}
use Rattle.model.specs.Refusals.{refusal_number_of}
use Rattle.record_bytes.proofs.ByteLaws.{sets_append}
use Rattle.bench_lines.specs.Text.{lines_of}
use Rattle.bench_lines.specs.Keys.{key_words, AllNamed}
use Rattle.bench_lines.proofs.KeyLaws.{length-keys}
use Rattle.bench_circuit.specs.Circuit.{Circuit, GateLine, empty_circuit, net_names, end_rules, circuit_of}
use Rattle.bench_circuit.specs.Judging.{LineRefused, TextTaken, TextTrue, NamesHeld}
use Rattle.bench_circuit.specs.Ending.{TextHeld, TextSound, EndSound, RefusedAt, EndTrue}
use Rattle.bench_circuit.proofs.CircuitLaws.{Legal, legal-empty, lines-leave, gate_names}
use Rattle.bench_circuit.proofs.TextEndCases.{at-end}
use Rattle.bench_circuit.specs.declared.inner.judging.NameCounts.{NameCounts}
use Rattle.bench_text.proofs.ConvertCases.{held-text}
use Rattle.bench_net_names.specs.NetNames.{names_in_of, names_of, name_of}
use Rattle.bench_net_names.specs.Table.{no_names_of, NamesTold}
use Rattle.bench_net_names.proofs.TableLaws.{names_in, words_append, no-names-zero, no-names-long}
use Rattle.std.specs.Prelude.{Result, Ok, Err}
use Rattle.bench_circuit.specs.declared.inner.judging.LineRefusal.{LineRefusal}

-- ---- a text that is refused

none_told : (text names : List ℕ) (number : ℕ) → circuit_of text ≡ refused number → names ≡ no_names_of → NamesTold names text
unfolding names_of name_of AllNamed key_words
none_told text names number e n = record {
  told = λ net. names_in [] no_names_of names tt no-names-zero n net ∙ sym (ap (λ (x : Answer Circuit). get_or (names_in_of x) net []) e);
}

pub fill_line : (text names is gs os : List ℕ) (r : Result NameCounts LineRefusal) (r0 : LineRefusal) → TextTrue r text is gs os
    → r ≡ Err r0 → names ≡ no_names_of → NamesTold names text
unfolding circuit_of
fill_line text names is gs os r r0 t e n =
    let z : LineRefused (refusal_number_of r0.why) r0.line text = subst (λ (x : Result NameCounts LineRefusal). TextTrue x text is gs os) e t in
    none_told text names (refusal_number_of r0.why) (ap (λ (x : Answer Circuit). x into (λ c. checks (end_rules c) then value c)) z.reads) n

pub fill_end : (text names is gs os : List ℕ) (n : NameCounts) (r : Result (Unit {0}) LineRefusal) (r0 : LineRefusal) → EndTrue r text is gs os n
    → r ≡ Err r0 → names ≡ no_names_of → NamesTold names text
fill_end text names is gs os n r r0 t e q =
    let z : RefusedAt (refusal_number_of r0.why) r0.line text = subst (λ (x : Result (Unit {0}) LineRefusal). EndTrue x text is gs os n) e t in
    none_told text names (refusal_number_of r0.why) z.answer q

-- ---- a text that is sound

first-words : (ws : List ℕ) (n : ℕ) (names : List (List ℕ)) → NamesHeld ws n names → take (2 * n) ws ≡ key_words names
first-words ws n names h =
    ap (take (2 * n)) h.holds.is ∙ take_at (key_words names) h.holds.rest (2 * n) (omega (arith, length-keys names, h.count))

all-named-append : (us vs : List (List ℕ)) → AllNamed us → AllNamed vs → AllNamed (us ++ vs)
unfolding AllNamed
all-named-append [] vs a b = b
all-named-append (u ∷ us) vs a b = (a.0, all-named-append us vs a.1 b)

module _ (text is gs os : List ℕ) (n : NameCounts) (t : TextHeld text is gs os n) where
  taken : TextTaken n text is gs os
  unfolding TextHeld
  taken = t

  abbrev c : Circuit
  c = taken.circuit

  legal : Legal c
  legal = (lines-leave (lines_of text) empty_circuit c legal-empty taken.reads).legal

  few : n.inputs + n.gates ≤ 512
  few =
      omega (arith, legal.few_nets, taken.held.inputs.count, taken.held.gates.count, lib.ListN.length-map c.gates (λ (g : GateLine). g.name))

  pub fill_inputs-fit : Fits w64 (2 * n.inputs)
  fill_inputs-fit = record { fits = omega (arith, few) }

  pub fill_gates-fit : Fits w64 (2 * n.gates)
  fill_gates-fit = record { fits = omega (arith, few) }

  pub fill_inputs-there : 2 * n.inputs ≤ length is
  fill_inputs-there = omega (arith, taken.room.words.input_words, taken.room.few_inputs)

  pub fill_gates-there : 2 * n.gates ≤ length gs
  fill_gates-there = omega (arith, taken.room.words.gate_words, taken.room.few_gates)

  module _ (names : List ℕ) (e : names ≡ no_names_of) where
    long : length names ≡ 1024
    long = ap (length {A = ℕ}) e ∙ no-names-long

    pub fill_inputs-room : 0 + 2 * n.inputs ≤ length names
    fill_inputs-room = omega (arith, long, few)

    module _ (first : List ℕ) (f : first ≡ sets names 0 (take (2 * n.inputs) is)) where
      pub fill_gates-room : 2 * n.inputs + 2 * n.gates ≤ length first
      fill_gates-room = omega (arith, long, few, ap (length {A = ℕ}) f, length-sets names 0 (take (2 * n.inputs) is))

      module _ (last : List ℕ) (g : last ≡ sets first (2 * n.inputs) (take (2 * n.gates) gs)) (r : Result (Unit {0}) LineRefusal) (en : EndTrue r text is gs os n) (q : r ≡ Ok tt) where
        sound : EndSound text is gs os n
        unfolding TextSound
        sound = subst (λ (x : Result (Unit {0}) LineRefusal). EndTrue x text is gs os n) q en

        abbrev d : Circuit
        d = sound.taken.circuit

        circuit-is : circuit_of text ≡ value d
        circuit-is = at-end text is gs os n sound.taken ∙ ap (λ (x : Answer (Unit {0})). x then value d) sound.sound

        words : last ≡ sets no_names_of 0 (key_words (net_names d))
        unfolding net_names
        words =
            let i = first-words is n.inputs d.inputs sound.taken.held.inputs in
            let j = first-words gs n.gates (gate_names d.gates) sound.taken.held.gates in
            let l : length (key_words d.inputs) ≡ 2 * n.inputs = omega (arith, length-keys d.inputs, sound.taken.held.inputs.count) in
            g ∙ ap (λ (x : List ℕ). sets x (2 * n.inputs) (take (2 * n.gates) gs)) (f ∙ ap (λ (x : List ℕ). sets x 0 (take (2 * n.inputs) is)) e ∙ ap (sets no_names_of 0) i)
            ∙ ap (sets (sets no_names_of 0 (key_words d.inputs)) (2 * n.inputs)) j
            ∙ sets_append (key_words d.inputs) (key_words (gate_names d.gates)) no_names_of 0 (2 * n.inputs) (omega (arith, l))
            ∙ ap (sets no_names_of 0) (sym (words_append d.inputs (gate_names d.gates)))

        pub fill_told : NamesTold last text
        unfolding names_of name_of net_names
        fill_told =
            let names = d.inputs ++ gate_names d.gates in
            let k = key_words names in
            let few_words : 0 + length k ≤ length no_names_of =
            omega (arith, length-keys names, length-append d.inputs (gate_names d.gates), sound.taken.held.inputs.count, sound.taken.held.gates.count, few, no-names-long) in
            let named = all-named-append d.inputs (gate_names d.gates) sound.taken.held.inputs.named sound.taken.held.gates.named in
            record {
              told = λ net.
                  names_in names (drop (0 + length k) no_names_of) last named
                  (λ i. get_or-drop (0 + length k) no_names_of i 0 ∙ no-names-zero (0 + length k + i))
                  (words ∙ sets-eq k no_names_of 0 few_words) net
                  ∙ sym (ap (λ (x : Answer Circuit). get_or (names_in_of x) net []) circuit-is);
            }

pub ruleset fill-cases =
    (fill_line, fill_end, held-text, fill_inputs-fit, fill_gates-fit, fill_inputs-there, fill_gates-there, fill_inputs-room, fill_gates-room, fill_told, rules)
