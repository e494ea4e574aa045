-- The lines of a text judged one after the other: those that are left, from the circuit so far, give the whole; so does the
-- number of the first bad one.
use Rattle.model.proofs.Prelude.{ℕ, ◌≤◌, ◌+◌, ◌-◌, suc, ◌≡◌, ◌∙◌, ap, refl, sym, subst, List, [], ◌∷◌, length, drop, take, drop_of_length-le, add-one}
use Rattle.model.proofs.Prelude.{arith}
use Rattle.model.specs.Base.{refused, value, checks}
use Rattle.bench_lines.specs.Text.{Statement, tokens_of, statement_of, lines_from, lines_of, last_line_of}
use Rattle.bench_lines.specs.LineReading.{LineIs}
use Rattle.bench_lines.specs.Keys.{AllNamed, key_words}
use Rattle.bench_circuit.specs.Circuit.{Circuit, empty_circuit, line_rules, added, line_by_line, bad_from}
use Rattle.model.specs.Refusals.{refusal_number_of}
use Rattle.bench_circuit.specs.Judging.{PinsNamed, NamesHeld, Held, WordsRoom, HeldRoom, LineTaken, LineJudged, RoomAfter, LineTrue, TextTaken, LineRefused}
use Rattle.model.specs.declared.Refusal.{Refusal}
use Rattle.bench_lines.specs.declared.inner.lines.LineEnds.{LineEnds}
use Rattle.bench_circuit.specs.declared.inner.judging.NameCounts.{NameCounts}
use Rattle.std.specs.Prelude.{Result, Ok, Err}

pub record JudgedSoFar (text : List ℕ) (at : ℕ) (is gs os : List ℕ) (n : NameCounts) (before : ℕ) : Type 0 where
  pub circuit : Circuit
  pub left : line_by_line circuit (lines_from [] (drop at text)) ≡ line_by_line empty_circuit (lines_of text)
  pub bad : bad_from circuit (before + 1) (lines_from [] (drop at text)) ≡ bad_from empty_circuit 1 (lines_of text)
  pub held : Held is gs os n circuit
  pub room : HeldRoom is gs os n
  pub inside : at ≤ length text

none-held : (ws : List ℕ) → NamesHeld ws 0 []
unfolding key_words AllNamed
none-held ws = record { holds = record { rest = ws; is = refl }; named = tt; count = refl }

pub text-start : (text is gs os : List ℕ) → WordsRoom is gs os
    → JudgedSoFar text 0 is gs os (record { inputs = 0; gates = 0; outputs = 0 }) 0
unfolding lines_of PinsNamed
text-start text is gs os w = record {
  circuit = empty_circuit;
  left = refl;
  bad = refl;
  held = record { inputs = none-held is; gates = none-held gs; outputs = none-held os; pins = tt };
  room = record { words = w; few_inputs = omega arith; few_gates = omega arith; few_outputs = omega arith };
  inside = omega arith;
}

module _ (c : Circuit) (l : List ℕ) (ls : List (List ℕ)) where
  line-next : checks (line_rules c (statement_of (tokens_of l))) ≡ value tt
      → line_by_line c (l ∷ ls) ≡ line_by_line (added c (statement_of (tokens_of l))) ls
  unfolding line_by_line
  line-next e = rw (e, line_by_line) refl

  bad-next : (k : ℕ) → checks (line_rules c (statement_of (tokens_of l))) ≡ value tt
      → bad_from c k (l ∷ ls) ≡ bad_from (added c (statement_of (tokens_of l))) (suc k) ls
  unfolding bad_from
  bad-next k e = rw (e, bad_from) refl

  line-stop : (w : ℕ) → checks (line_rules c (statement_of (tokens_of l))) ≡ refused w → line_by_line c (l ∷ ls) ≡ refused w
  unfolding line_by_line
  line-stop w e = rw (e, line_by_line) refl

  bad-stop : (k w : ℕ) → checks (line_rules c (statement_of (tokens_of l))) ≡ refused w → bad_from c k (l ∷ ls) ≡ k
  unfolding bad_from
  bad-stop k w e = rw (e, bad_from) refl

module _ (text : List ℕ) (at : ℕ) (is gs os : List ℕ) (n : NameCounts) (before : ℕ)
    (s : JudgedSoFar text at is gs os n before) where
  pub text-room : HeldRoom is gs os n
  text-room = s.room

  pub text-end : length text ≤ at → TextTaken n text is gs os
  unfolding line_by_line lines_from last_line_of
  text-end h = record {
    circuit = s.circuit;
    reads = sym s.left ∙ ap (λ (b : List ℕ). line_by_line s.circuit (lines_from [] b)) (drop_of_length-le text {i = at} h);
    held = s.held;
    room = s.room;
  }

  module _ (ends : LineEnds) (e : LineIs ends at text) where
    abbrev line : List ℕ
    line = take (ends.stop - at) (drop at text)

    abbrev rest : List (List ℕ)
    rest = lines_from [] (drop ends.next text)

    abbrev c : Circuit
    c = s.circuit

    abbrev said : Statement
    said = statement_of (tokens_of line)

    module _ (is' gs' os' : List ℕ) (r : Result NameCounts Refusal) (j : LineTrue r line n is gs os is' gs' os') where
      judged-line : (x : Result NameCounts Refusal) → r ≡ x → LineJudged x c said is' gs' os'
      judged-line x q = subst (λ (y : Result NameCounts Refusal). LineJudged y c said is' gs' os') q (j.judged c s.held)

      pub text-refused : (w : Refusal) → r ≡ Err w → LineRefused (refusal_number_of w) (before + 1) text
      text-refused w q =
          let z : checks (line_rules c said) ≡ refused (refusal_number_of w) = judged-line (Err w) q in
          record {
            reads = sym s.left ∙ ap (line_by_line c) e.lines ∙ line-stop c line rest (refusal_number_of w) z;
            place = sym (bad-stop c line rest (before + 1) (refusal_number_of w) z)
                ∙ ap (bad_from c (before + 1)) (sym e.lines) ∙ s.bad;
          }

      pub text-again : (m : NameCounts) → r ≡ Ok m
          → JudgedSoFar text ends.next is' gs' os' m (before + 1)
      text-again m q =
          let z : LineTaken m c said is' gs' os' = judged-line (Ok m) q in
          let later : bad_from c (before + 1) (lines_from [] (drop at text)) ≡ bad_from (added c said) (before + 1 + 1) rest =
          ap (bad_from c (before + 1)) e.lines ∙ bad-next c line rest (before + 1) z.passed
          ∙ ap (λ (k : ℕ). bad_from (added c said) k rest) (sym (add-one (before + 1))) in
          record {
            circuit = added c said;
            left = sym (ap (line_by_line c) e.lines ∙ line-next c line rest z.passed) ∙ s.left;
            bad = sym later ∙ s.bad;
            held = z.held;
            room = subst (λ (x : Result NameCounts Refusal). RoomAfter x is' gs' os') q j.room;
            inside = e.next_in;
          }
