-- The line on a refusal, part by part.
use Rattle.model.proofs.Prelude.{ℕ, ◌≤◌, ◌+◌, min, ◌≡◌, ◌∙◌, refl, sym, true, Bool, false, List, [], ◌++◌, length, length-append, arith, rules}
use Rattle.text_line.specs.Decimal.{decimal_text, refused_word, refused_text}
use Rattle.text_line.specs.Lines.{ascii, on_line}
use Rattle.text_line.proofs.DecimalLaws.{at-most-20}
use Rattle.text_line.proofs.LineLaws.{on_line-alone, first_part, then-part}
use Rattle.report_verdict.specs.Verdict.{of_record}
use Rattle.testfile_argument.specs.Refusing.{last_place, refused_line_of}

short : (number : ℕ) → length (refused_text number) ≤ 28
unfolding refused_text
short number = omega (arith, length-append refused_word (decimal_text number), at-most-20 number)

module _ (number taken : ℕ) (ofOne : Bool) (q : ofOne ≡ of_record number) where
  -- of a record
  module _ (place : ℕ) (e : place ≡ min (taken + 1) last_place) (r : ofOne ≡ true) where
    abbrev text : List ℕ
    text = ascii "record " ++ decimal_text place ++ ascii " " ++ refused_text number

    fits : length text ≤ 128
    fits =
        omega (
          arith,
          length-append (ascii "record ") (decimal_text place),
          length-append (ascii "record " ++ decimal_text place) (ascii " "),
          length-append (ascii "record " ++ decimal_text place ++ ascii " ") (refused_text number),
          at-most-20 place,
          short number,
        )

    is-line : text ≡ refused_line_of number taken
    unfolding refused_line_of
    is-line = sym (rw (sym q ∙ r, sym e, refused_line_of) refl)

    pub record_line_lem : (x0 x1 x2 x3 x4 : List ℕ) → x0 ≡ [] → x1 ≡ on_line x0 (ascii "record ") → x2 ≡ on_line x1 (decimal_text place) → x3 ≡ on_line x2 (ascii " ")
        → x4 ≡ on_line x3 (refused_text number) → x4 ≡ refused_line_of number taken
    record_line_lem x0 x1 x2 x3 x4 e0 e1 e2 e3 e4 =
        then-part [] x3 x4 (ascii "record " ++ decimal_text place ++ ascii " ") (refused_text number)
        (then-part [] x2 x3 (ascii "record " ++ decimal_text place) (ascii " ")
        (then-part [] x1 x2 (ascii "record ") (decimal_text place) (first_part x0 x1 (ascii "record ") e0 e1) e2) e3) e4
        ∙ on_line-alone text fits ∙ is-line

  -- of all else
  pub other-line : (x0 x1 : List ℕ) → ofOne ≡ false → x0 ≡ [] → x1 ≡ on_line x0 (refused_text number) → x1 ≡ refused_line_of number taken
  unfolding refused_line_of
  other-line x0 x1 r e0 e1 =
      first_part x0 x1 (refused_text number) e0 e1 ∙ on_line-alone (refused_text number) (omega (arith, short number)) ∙ sym (rw (sym q ∙ r, refused_line_of) refl)

pub ruleset refused-cases = (record_line_lem, other-line, rules)
