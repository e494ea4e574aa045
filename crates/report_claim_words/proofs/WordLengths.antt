-- How long the words of a line are at the most.
use Rattle.model.proofs.Prelude.{ℕ, ◌≤◌, ◌≡◌, ⊎_elim, true, false, length, length-append, eqb, arith}
use Rattle.model.specs.Path.{Edge, rising, falling}
use Rattle.model.proofs.BoolLaws.{bool_cases}
use Rattle.text_line.proofs.DecimalLaws.{at-most-20}
use Rattle.report_claim_words.specs.ClaimWords.{edge_word, kind_text, field_name, paths_text, plural_text}
use Rattle.report_claim_words.specs.declared.Kind.{Kind}
use Rattle.report_claim_words.specs.declared.Kind.TheVariants as kind
use Rattle.report_claim_words.specs.declared.Field.{Field}
use Rattle.report_claim_words.specs.declared.Field.TheVariants as field

pub edge-short : (e : Edge) → length (edge_word e) ≤ 7
edge-short rising = omega arith
edge-short falling = omega arith

pub kind-short : (k : Kind) → length (kind_text k) ≤ 22
kind-short kind.FalseClaim = omega arith
kind-short kind.NotRobust = omega arith
kind-short kind.Missed = omega arith

pub field-short : (f : Field) → length (field_name f) ≤ 12
field-short field.Tests = omega arith
field-short field.Paths = omega arith
field-short field.RisingRuns = omega arith
field-short field.FallingRuns = omega arith

pub plural_short : (k : Kind) (count : ℕ) → length (plural_text k count) ≤ 22
unfolding plural_text
plural_short kind.FalseClaim count =
    ⊎_elim (λ (e : eqb count 1 ≡ true). rw (e, plural_text) (omega arith)) (λ (e : eqb count 1 ≡ false). rw (e, plural_text) (omega arith)) (bool_cases (eqb count 1))
plural_short kind.NotRobust count = omega arith
plural_short kind.Missed count = omega arith

pub paths-short : (low high : ℕ) → length (paths_text low high) ≤ 50
unfolding paths_text
paths-short low high =
    ⊎_elim (λ (e : eqb low high ≡ true). rw (e, paths_text) (simp length-append (omega (arith, at-most-20 low))))
    (λ (e : eqb low high ≡ false). rw (e, paths_text) (simp length-append (omega (arith, at-most-20 low, at-most-20 high)))) (bool_cases (eqb low high))
