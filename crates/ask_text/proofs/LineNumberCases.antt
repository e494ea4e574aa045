-- The cases of a line's number: one more digit, and one more byte.
use Rattle.model.proofs.Prelude.{ℕ, ◌≤◌, ◌<◌, ◌+◌, ◌-◌, ◌*◌, ◌≡◌, ◌∙◌, ap, refl, sym, arith, rules, le-leb, lt-leb}
use Rattle.ask_text.specs.Questions.{with_digit_of, digit_after, byte_after_of}
use Rattle.ask_text.specs.declared.inner.Stated.{Stated}
use Rattle.ask_text.specs.declared.inner.Stated.TheVariants as stated

-- ---- one more digit

module _ (n d : ℕ) where
  too_long : 18446744073709551615 < 10 * n + d → stated.Wrong ≡ with_digit_of n d
  unfolding with_digit_of
  too_long h = rw (lt-leb (10 * n + d) 18446744073709551615 h, with_digit_of) refl

  pub digit-over : 1844674407370955161 < n → stated.Wrong ≡ with_digit_of n d
  digit-over h = too_long (omega arith)

  pub digit-past : n ≤ 1844674407370955161 → 18446744073709551615 - 10 * n < d → stated.Wrong ≡ with_digit_of n d
  digit-past p h = too_long (omega arith)

  pub digit-fits : n ≤ 1844674407370955161 → d ≤ 18446744073709551615 - 10 * n → stated.Number (10 * n + d) ≡ with_digit_of n d
  unfolding with_digit_of
  digit-fits p h = let fits : 10 * n + d ≤ 18446744073709551615 = omega arith in rw (le-leb (10 * n + d) 18446744073709551615 fits, with_digit_of) refl

-- ---- one more byte

module _ (line : Stated) (b : ℕ) where
  pub byte-below : b < 48 → stated.Wrong ≡ byte_after_of line b
  unfolding byte_after_of
  byte-below h = rw (lt-leb 48 b h, byte_after_of) refl

  module _ (p : 48 ≤ b) where
    pub byte_above : 57 < b → stated.Wrong ≡ byte_after_of line b
    unfolding byte_after_of
    byte_above h = rw (le-leb 48 b p, lt-leb b 57 h, byte_after_of) refl

    module _ (q : b ≤ 57) where
      is_digit : digit_after line (b - 48) ≡ byte_after_of line b
      unfolding byte_after_of
      is_digit = rw (le-leb 48 b p, le-leb b 57 q, byte_after_of) refl

      pub byte-first : line ≡ stated.Nothing → stated.Number (b - 48) ≡ byte_after_of line b
      byte-first e = ap (λ (s : Stated). digit_after s (b - 48)) (sym e) ∙ is_digit

      pub byte_more : (n : ℕ) → line ≡ stated.Number n → (r : Stated) → r ≡ with_digit_of n (b - 48) → r ≡ byte_after_of line b
      byte_more n e r f = f ∙ ap (λ (s : Stated). digit_after s (b - 48)) (sym e) ∙ is_digit

      pub byte-wrong : line ≡ stated.Wrong → stated.Wrong ≡ byte_after_of line b
      byte-wrong e = ap (λ (s : Stated). digit_after s (b - 48)) (sym e) ∙ is_digit

pub ruleset number-cases = (digit-over, digit-past, digit-fits, byte-below, byte_above, byte-first, byte_more, byte-wrong, rules)
