-- The cases of the words of a line.
use Rattle.model.proofs.Prelude.{ℕ, ◌≡◌, ◌∙◌, ap, refl, sym, ◌++◌, ne_eqb, eq-eqb}
use Rattle.text_line.specs.Decimal.{decimal_text}
use Rattle.text_line.specs.Lines.{ascii}
use Rattle.report_claim_words.specs.ClaimWords.{paths_text, plural_text}
use Rattle.report_claim_words.specs.declared.Kind.{Kind}
use Rattle.report_claim_words.specs.declared.Kind.TheVariants as kind

-- Paths
pub one-path : (low high : ℕ) → low ≡ high → ascii "path " ++ decimal_text low ≡ paths_text low high
unfolding paths_text
one-path low high h = sym (rw (eq-eqb low high h, paths_text) refl)

pub some-paths : (low high : ℕ) → (low ≡ high → ⊥)
    → ascii "paths " ++ decimal_text low ++ ascii " to " ++ decimal_text high ≡ paths_text low high
unfolding paths_text
some-paths low high h = sym (rw (ne_eqb low high h, paths_text) refl)

-- Kinds
pub plural_missed : (k : Kind) (count : ℕ) → k ≡ kind.Missed → ascii "missed" ≡ plural_text k count
unfolding plural_text
plural_missed k count e = sym (ap (λ (z : Kind). plural_text z count) e)

pub plural_not_robust : (k : Kind) (count : ℕ) → k ≡ kind.NotRobust
    → ascii "detected, not robustly" ≡ plural_text k count
unfolding plural_text
plural_not_robust k count e = sym (ap (λ (z : Kind). plural_text z count) e)

pub plural_one : (k : Kind) (count : ℕ) → k ≡ kind.FalseClaim → count ≡ 1 → ascii "false claim" ≡ plural_text k count
unfolding plural_text
plural_one k count e h = sym (ap (λ (z : Kind). plural_text z count) e ∙ rw (eq-eqb count 1 h, plural_text) refl)

pub plural_more : (k : Kind) (count : ℕ) → k ≡ kind.FalseClaim → (count ≡ 1 → ⊥)
    → ascii "false claims" ≡ plural_text k count
unfolding plural_text
plural_more k count e h = sym (ap (λ (z : Kind). plural_text z count) e ∙ rw (ne_eqb count 1 h, plural_text) refl)
