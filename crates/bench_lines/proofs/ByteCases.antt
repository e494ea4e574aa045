-- The bytes that may stand in a name, by ranges.
use Rattle.model.proofs.Prelude.{ℕ, ◌≤◌, ◌<◌, ◌≡◌, true, false, leb, arith, rules, le-leb, lt-leb, ne_eqb}
use Rattle.bench_lines.specs.Text.{name_byte}

module _ (b : ℕ) where
  pub below-digits : b < 0x30 → false ≡ name_byte b
  unfolding name_byte
  below-digits h =
      simp (lt-leb 0x30 b h, lt-leb 0x41 b (omega arith), ne_eqb b 0x5F (λ e. omega arith), lt-leb 0x61 b (omega arith))

  pub a-digit : 0x30 ≤ b → b ≤ 0x39 → true ≡ name_byte b
  unfolding name_byte
  a-digit l h = simp (le-leb 0x30 b l, le-leb b 0x39 h)

  pub below-capitals : 0x39 < b → b < 0x41 → false ≡ name_byte b
  unfolding name_byte
  below-capitals l h =
      simp (lt-leb b 0x39 l, le-leb 0x30 b (omega arith), lt-leb 0x41 b h, ne_eqb b 0x5F (λ e. omega arith), lt-leb 0x61 b (omega arith))

  pub a-capital : 0x39 < b → 0x41 ≤ b → b ≤ 0x5A → true ≡ name_byte b
  unfolding name_byte
  a-capital k l h = simp (lt-leb b 0x39 k, le-leb 0x30 b (omega arith), le-leb 0x41 b l, le-leb b 0x5A h)

  pub an_underscore : b ≡ 0x5F → true ≡ name_byte b
  unfolding name_byte
  an_underscore e = simp e

  pub below-small : 0x5A < b → (b ≡ 0x5F → ⊥) → b < 0x61 → false ≡ name_byte b
  unfolding name_byte
  below-small l d h =
      simp (le-leb 0x30 b (omega arith), lt-leb b 0x39 (omega arith), le-leb 0x41 b (omega arith), lt-leb b 0x5A l, ne_eqb b 0x5F d, lt-leb 0x61 b h)

  pub small-or_above : (b ≡ 0x5F → ⊥) → 0x61 ≤ b → leb b 0x7A ≡ name_byte b
  unfolding name_byte
  small-or_above d l =
      simp (le-leb 0x30 b (omega arith), lt-leb b 0x39 (omega arith), le-leb 0x41 b (omega arith), lt-leb b 0x5A (omega arith), ne_eqb b 0x5F d, le-leb 0x61 b l)

pub ruleset byte-cases =
    (below-digits, a-digit, below-capitals, a-capital, an_underscore, below-small, small-or_above, rules)
