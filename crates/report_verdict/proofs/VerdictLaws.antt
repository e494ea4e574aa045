-- A text that fits a line, on_line-alone on it, is what the line says.
use Rattle.model.proofs.Prelude.{ℕ, ◌≤◌, ◌≡◌, ◌∙◌, ap, refl, sym, List, [], ◌++◌, length, length-append, arith, rules, ne_eqb, eq-eqb}
use Rattle.model.specs.Refusals.{refusal_number_of}
use Rattle.model.specs.declared.Refusal.{Refusal}
use Rattle.text_line.specs.Decimal.{refused_word, refused_text, decimal_text}
use Rattle.text_line.specs.Lines.{on_line}
use Rattle.text_line.proofs.LineLaws.{on_line-alone}
use Rattle.text_line.proofs.DecimalLaws.{at-most-20}
use Rattle.report_verdict.specs.Verdict.{accepted_text, verdict_text, judged_text, non_robust_text, robust_text, class_text}
use Rattle.std.specs.Prelude.{Result, Ok, Err}
use Rattle.model.specs.Returned.{answer_of}

short : (number : ℕ) → length (refused_text number) ≤ 128
unfolding refused_text
short number = omega (arith, length-append refused_word (decimal_text number), at-most-20 number)

-- what stands on a line that was empty
module _ (answer : Result (Unit {0}) Refusal) (before after : List ℕ) (e : before ≡ []) where
  pub line-accepted : answer ≡ Ok tt → after ≡ on_line before accepted_text → after ≡ verdict_text (answer_of answer)
  line-accepted q l =
      l ∙ ap (λ (t : List ℕ). on_line t accepted_text) e ∙ on_line-alone accepted_text (omega arith) ∙ ap (λ (a : Result (Unit {0}) Refusal). verdict_text (answer_of a)) (sym q)

  pub line_refused : (why : Refusal) → answer ≡ Err why → after ≡ on_line before (refused_text (refusal_number_of why)) → after ≡ verdict_text (answer_of answer)
  line_refused why q l =
      l ∙ ap (λ (t : List ℕ). on_line t (refused_text (refusal_number_of why))) e ∙ on_line-alone (refused_text (refusal_number_of why)) (short (refusal_number_of why))
      ∙ ap (λ (a : Result (Unit {0}) Refusal). verdict_text (answer_of a)) (sym q)

pub ruleset line-cases = (line-accepted, line_refused, rules)

-- the class
module _ (class : ℕ) (before after : List ℕ) (e : before ≡ []) where
  pub class-robust : class ≡ 2 → after ≡ on_line before (judged_text ++ robust_text) → after ≡ class_text class
  unfolding class_text
  class-robust q l =
      l ∙ ap (λ (t : List ℕ). on_line t (judged_text ++ robust_text)) e ∙ on_line-alone (judged_text ++ robust_text) (omega arith) ∙ rw (eq-eqb class 2 q) refl

  pub class-other : (class ≡ 2 → ⊥) → after ≡ on_line before (judged_text ++ non_robust_text) → after ≡ class_text class
  unfolding class_text
  class-other q l =
      l ∙ ap (λ (t : List ℕ). on_line t (judged_text ++ non_robust_text)) e ∙ on_line-alone (judged_text ++ non_robust_text) (omega arith) ∙ rw (ne_eqb class 2 q) refl

pub ruleset Class-cases = (class-robust, class-other, rules)
