-- The call put together from its parts.
use Rattle.model.proofs.Prelude.{ℕ, ◌≤◌, ◌<◌, ◌≡◌, ◌∙◌, ap, refl, sym, subst, List, ◌++◌, length, drop, le-leb, lt-leb}
use Rattle.model.specs.Base.{Answer, refused, value, ◌into◌, ◌then◌, checks, after}
use Rattle.model.specs.Refusals.{refusal_number_of}
use Rattle.bench_lines.specs.Text.{lines_of}
use Rattle.bench_circuit.specs.Circuit.{Circuit, end_rules, line_in, refused_line_of, circuit_of}
use Rattle.bench_circuit.specs.Judging.{LineRefused, TextTrue}
use Rattle.bench_circuit.specs.Ending.{TextHeld, TextSound, RefusedAt, EndTrue}
use Rattle.bench_text.specs.NetlistFile.{netlist_bytes, converted}
use Rattle.bench_text.specs.Calls.{convert_call, convert_answer, convert_line, convert_buffer}
use Rattle.bench_text.specs.Converting.{ConvertTrue}
use Rattle.model.specs.declared.Refusal.{Refusal}
use Rattle.model.specs.declared.Refusal.TheVariants as why
use Rattle.bench_circuit.specs.declared.inner.judging.NameCounts.{NameCounts}
use Rattle.std.specs.Prelude.{Result, Ok, Err}
use Rattle.bench_circuit.specs.declared.inner.judging.LineRefusal.{LineRefusal}

module _ (text out : List ℕ) (big : 10484 ≤ length out) where
  pub call-is : convert_call text out ≡ converted text
  unfolding convert_call
  call-is = rw (le-leb 10484 (length out) big) refl

  pub line-is : convert_line text out ≡ refused_line_of text
  unfolding convert_line
  line-is = rw (le-leb 10484 (length out) big, convert_line) refl

  call-refused : (w : Refusal) (line : ℕ) → RefusedAt (refusal_number_of w) line text
      → ConvertTrue (Err (record { why = w; line = line })) text out out
  unfolding converted convert_answer convert_buffer
  call-refused w line t =
      let z : convert_call text out ≡ refused (refusal_number_of w) =
      call-is ∙ ap (λ (x : Answer Circuit). x into λ c. value (netlist_bytes c)) t.answer in
      record {
        answer = sym (ap (λ (x : Answer (List ℕ)). x into λ bs. value (length bs)) z);
        line = t.place ∙ sym line-is;
        buffer = sym (ap (λ (x : Answer (List ℕ)). after x out (λ bs. bs ++ drop (length bs) out)) z);
      }

  pub end_refused : (r : Result (Unit {0}) LineRefusal) (r0 : LineRefusal) (is gs os : List ℕ) (n : NameCounts)
      → EndTrue r text is gs os n → r ≡ Err r0 → ConvertTrue (Err r0) text out out
  end_refused r r0 is gs os n t e = call-refused r0.why r0.line (subst (λ (x : Result (Unit {0}) LineRefusal). EndTrue x text is gs os n) e t)

  pub text-refused : (r : Result NameCounts LineRefusal) (r0 : LineRefusal) (is gs os : List ℕ) → TextTrue r text is gs os
      → r ≡ Err r0 → ConvertTrue (Err r0) text out out
  unfolding circuit_of refused_line_of line_in
  text-refused r r0 is gs os t e =
      let z : LineRefused (refusal_number_of r0.why) r0.line text = subst (λ (x : Result NameCounts LineRefusal). TextTrue x text is gs os) e t in
      call-refused r0.why r0.line (record {
        answer = ap (λ (x : Answer Circuit). x into (λ c. checks (end_rules c) then value c)) z.reads;
        place = z.place ∙ sym (ap (λ (x : Answer Circuit). line_in x (lines_of text)) z.reads);
      })

pub buffer-short : (text out : List ℕ) → length out < 10484
    → ConvertTrue (Err (record { why = why.NetlistBufferLength; line = 0 })) text out out
unfolding convert_answer convert_buffer convert_call convert_line
buffer-short text out h =
    let z = lt-leb 10484 (length out) h in
    record { answer = rw z refl; line = rw (z, convert_line) refl; buffer = rw z refl }

pub held-text : (r : Result NameCounts LineRefusal) (n : NameCounts) (text is gs os : List ℕ) → TextTrue r text is gs os
    → r ≡ Ok n → TextHeld text is gs os n
unfolding TextHeld
held-text r n text is gs os t e = subst (λ (x : Result NameCounts LineRefusal). TextTrue x text is gs os) e t

pub end-told : (r : Result (Unit {0}) LineRefusal) (text is gs os : List ℕ) (n : NameCounts) → EndTrue r text is gs os n → r ≡ Ok tt
    → TextSound text is gs os n
end-told r text is gs os n t e = subst (λ (x : Result (Unit {0}) LineRefusal). EndTrue x text is gs os n) e t
