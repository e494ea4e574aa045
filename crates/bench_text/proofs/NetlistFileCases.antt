-- The netlist file put together from its parts: header, gates, outputs among the inputs, outputs among the gates.
use Rattle.model.proofs.Prelude.{ℕ, ◌≤◌, ◌+◌, ◌*◌, ◌≡◌, ◌∙◌, ap, refl, sym, subst, ap₂, List, ◌++◌, map, append_assoc, length, drop, length-append}
use Rattle.model.proofs.Prelude.{length-map, sets, length-sets, sets-eq, T, arith}
use Rattle.model.specs.Base.{Answer, value, ◌into◌, ◌then◌, after, all_of}
use Rattle.model.specs.Encode.{header_bytes}
use Rattle.model.proofs.BoolLaws.{T→true}
use Rattle.record_bytes.proofs.ByteLaws.{sets_append}
use Rattle.bench_lines.specs.Text.{lines_of, is_in}
use Rattle.bench_circuit.specs.Circuit.{GateLine, Circuit, empty_circuit, net_names, end_rules, end_line, refused_line_of, circuit_of}
use Rattle.bench_text.specs.NetlistFile.{gate_records, output_nets, output_records, netlist_bytes, converted}
use Rattle.bench_text.specs.Calls.{convert_call, convert_answer, convert_buffer}
use Rattle.bench_names.specs.NameNets.{NamesRoom}
use Rattle.bench_circuit.specs.Judging.{PinsNamed, TextTaken}
use Rattle.bench_text.specs.FileWriting.{lines_bytes, AllFewPins}
use Rattle.bench_outputs.specs.OutputWriting.{BytesPut, key_outputs}
use Rattle.bench_text.specs.Converting.{FileWritten}
use Rattle.bench_circuit.specs.Ending.{EndSound, TextSound}
use Rattle.bench_circuit.specs.declared.inner.judging.NameCounts.{NameCounts}
use Rattle.model.proofs.AnswerLaws.{checks→}
use Rattle.bench_circuit.proofs.CircuitLaws.{GatesFit, legal-empty, LinesLeave, lines-leave}
use Rattle.bench_text.proofs.BytesLaws.{bytes_fit}
use Rattle.bench_text.proofs.WholeLaws.{few-lines, lines_are, outs-are, outs-append}
use Rattle.bench_circuit.proofs.LineCases.{room-names, room-outputs}
use Rattle.bench_circuit.proofs.TextEndCases.{at-end, at-line}
use Rattle.bench_text.proofs.ConvertCases.{call-is, line-is}

module _ (text out : List ℕ) (big : 10484 ≤ length out) where
  call-written : (bytes : List ℕ) (end : ℕ) (out' : List ℕ) → converted text ≡ value bytes → 0 ≡ refused_line_of text
      → end ≡ length bytes → length bytes ≤ length out → out' ≡ sets out 0 bytes → FileWritten end text out out'
  unfolding convert_answer convert_buffer
  call-written bytes end out' e line l f q =
      let z : convert_call text out ≡ value bytes = call-is text out big ∙ e in
      let k : 0 + length bytes ≡ length bytes = omega arith in
      let b : bytes ++ drop (length bytes) out ≡ convert_buffer text out =
      sym (ap (λ (x : Answer (List ℕ)). after x out (λ bs. bs ++ drop (length bs) out)) z) in
      record {
        answer = ap value l ∙ sym (ap (λ (x : Answer (List ℕ)). x into λ bs. value (length bs)) z);
        line = line ∙ sym (line-is text out big);
        buffer = q ∙ sets-eq bytes out 0 (omega arith) ∙ ap (λ (m : ℕ). bytes ++ drop m out) k ∙ b;
      }

module _ (text out is gs os : List ℕ) (n : NameCounts) (big : 10484 ≤ length out) (sound : TextSound text is gs os n) where
  end : EndSound text is gs os n
  unfolding TextSound
  end = sound

  abbrev t : TextTaken n text is gs os
  t = end.taken

  abbrev c : Circuit
  c = t.circuit

  abbrev i : ℕ
  i = n.inputs

  abbrev g : ℕ
  g = n.gates

  abbrev o : ℕ
  o = n.outputs

  -- the parts of the file by the words
  abbrev H : List ℕ
  H = header_bytes n.inputs n.gates n.outputs

  abbrev L : List ℕ
  L = lines_bytes is n.inputs gs n.gates (lines_of text)

  abbrev A : List ℕ
  A = key_outputs os n.outputs is n.inputs 0 0

  abbrev B : List ℕ
  B = key_outputs os n.outputs gs n.gates 0 n.inputs

  left : LinesLeave empty_circuit (lines_of text) c
  left = lines-leave (lines_of text) empty_circuit c legal-empty t.reads

  defined : T (all_of (λ x. is_in x (net_names c)) c.outputs)
  unfolding end_rules
  defined = (checks→ (end_rules c) (record { got = tt; is = end.sound })).0

  no_line : 0 ≡ refused_line_of text
  unfolding end_line
  no_line =
      sym (at-line text is gs os n t ∙ rw (T→true (all_of (λ x. is_in x (net_names c)) c.outputs) defined, end_line) refl)

  lines : L ≡ gate_records (net_names c) c.gates
  lines =
      lines_are t.held (lines_of text) (subst PinsNamed left.gates t.held.pins)
      ∙ ap (gate_records (net_names c)) (sym left.gates)

  outs : A ++ B ≡ output_records (output_nets 0 (net_names c) c.outputs)
  unfolding net_names
  outs =
      let h = t.held in
      let names = map (λ (x : GateLine). x.name) c.gates in
      let ha = h.inputs.holds in
      let hb = h.gates.holds in
      let a : A ≡ output_records (output_nets 0 c.inputs c.outputs) =
      ap (λ (m : ℕ). key_outputs os o is m 0 0) h.inputs.count ∙ outs-are h is c.inputs 0 0 ha.rest ha.is h.inputs.named in
      let b : B ≡ output_records (output_nets i names c.outputs) =
      ap (λ (m : ℕ). key_outputs os o gs m 0 i) h.gates.count ∙ outs-are h gs names 0 i hb.rest hb.is h.gates.named in
      let k : i ≡ 0 + length c.inputs = omega (arith, h.inputs.count) in
      ap₂ (λ (u v : List ℕ). u ++ v) a (b ∙ ap (λ (m : ℕ). output_records (output_nets m names c.outputs)) k) ∙ sym (outs-append 0 c.inputs names c.outputs)

  whole : netlist_bytes c ≡ H ++ (L ++ (A ++ B))
  unfolding netlist_bytes
  whole =
      let h = t.held in
      let gc : g ≡ length c.gates = h.gates.count ∙ length-map c.gates (λ (x : GateLine). x.name) in
      sym (ap₂ (λ (u v : List ℕ). u ++ v)
      (ap₂ (λ (u v : ℕ). header_bytes u v o) h.inputs.count gc ∙ ap (header_bytes (length c.inputs) (length c.gates)) h.outputs.count)
      (ap₂ (λ (u v : List ℕ). u ++ v) lines outs))

  sizes : 8 + length L + length A + length B ≡ length (netlist_bytes c)
  unfolding header_bytes
  sizes = omega (arith, ap length whole, length-append H (L ++ (A ++ B)), length-append L (A ++ B), length-append A B)

  fits : length (netlist_bytes c) ≤ 10484
  fits = bytes_fit c left.legal defined

  pub file-room : NamesRoom is n.inputs gs n.gates
  file-room = room-names is gs os n t.room

  pub file-inputs : 2 * n.inputs ≤ length is
  file-inputs = omega (arith, t.room.words.input_words, t.room.few_inputs)

  pub file-gates : 2 * n.gates ≤ length gs
  file-gates = omega (arith, t.room.words.gate_words, t.room.few_gates)

  pub file-outputs : 2 * n.outputs ≤ length os
  file-outputs = room-outputs is gs os n t.room

  pub file-first : 0 + n.inputs ≤ 1024
  file-first = omega (arith, t.room.few_inputs)

  pub file-second : n.inputs + n.gates ≤ 1024
  file-second = omega (arith, t.room.few_inputs, t.room.few_gates)

  pub file-few : AllFewPins (lines_of text)
  file-few = few-lines (lines_of text) (subst GatesFit left.gates left.legal.fits)

  module _ (o₁ : List ℕ) (e₁ : o₁ ≡ sets out 0 (header_bytes n.inputs n.gates n.outputs)) where
    length₁ : length o₁ ≡ length out
    length₁ = ap length e₁ ∙ length-sets out 0 H

    pub room-lines : 8 + length (lines_bytes is n.inputs gs n.gates (lines_of text)) ≤ length o₁
    room-lines = omega (arith, sizes, fits, length₁)

    module _ (a : ℕ) (o₂ : List ℕ) (e₂ : BytesPut a o₁ o₂ 8 (lines_bytes is n.inputs gs n.gates (lines_of text))) where
      length₂ : length o₂ ≡ length out
      length₂ = ap length e₂.put ∙ length-sets o₁ 8 L ∙ length₁

      pub room-inputs : a + length (key_outputs os n.outputs is n.inputs 0 0) ≤ length o₂
      room-inputs = omega (arith, sizes, fits, e₂.next, length₂)

      module _ (b : ℕ) (o₃ : List ℕ) (e₃ : BytesPut b o₂ o₃ a (key_outputs os n.outputs is n.inputs 0 0)) where
        length₃ : length o₃ ≡ length out
        length₃ = ap length e₃.put ∙ length-sets o₂ a A ∙ length₂

        pub room-gates : b + length (key_outputs os n.outputs gs n.gates 0 n.inputs) ≤ length o₃
        room-gates = omega (arith, sizes, fits, e₂.next, e₃.next, length₃)

        pub file-written : (d : ℕ) (o₄ : List ℕ)
            → BytesPut d o₃ o₄ b (key_outputs os n.outputs gs n.gates 0 n.inputs) → FileWritten d text out o₄
        unfolding header_bytes converted
        file-written d o₄ e₄ =
            let q₂ : o₂ ≡ sets out 0 (H ++ L) =
            e₂.put ∙ ap (λ (x : List ℕ). sets x 8 L) e₁ ∙ sets_append H L out 0 8 (omega arith) in
            let l₂ : length (H ++ L) ≡ a = omega (arith, e₂.next, length-append H L) in
            let q₃ : o₃ ≡ sets out 0 ((H ++ L) ++ A) =
            e₃.put ∙ ap (λ (x : List ℕ). sets x a A) q₂ ∙ sets_append (H ++ L) A out 0 a (omega (arith, l₂)) in
            let l₃ : length ((H ++ L) ++ A) ≡ b = omega (arith, e₃.next, l₂, length-append (H ++ L) A) in
            let q₄ : o₄ ≡ sets out 0 (((H ++ L) ++ A) ++ B) =
            e₄.put ∙ ap (λ (x : List ℕ). sets x b B) q₃ ∙ sets_append ((H ++ L) ++ A) B out 0 b (omega (arith, l₃)) in
            let j : ((H ++ L) ++ A) ++ B ≡ netlist_bytes c =
            append_assoc (H ++ L) A B ∙ append_assoc H L (A ++ B) ∙ sym whole in
            let v : circuit_of text ≡ value c =
            at-end text is gs os n t ∙ ap (λ (x : Answer (Unit {0})). x then value c) end.sound in
            let w : converted text ≡ value (netlist_bytes c) =
            ap (λ (x : Answer Circuit). x into λ r. value (netlist_bytes r)) v in
            call-written text out big (netlist_bytes c) d o₄ w no_line (omega (arith, sizes, e₂.next, e₃.next, e₄.next)) (omega (arith, fits)) (q₄ ∙ ap (sets out 0) j)
