-- The 34 bytes before the runs, written and compared field by field.
use Rattle.model.proofs.Prelude.{ℕ, ◌≤◌, ◌≡◌, ◌∙◌, ap, refl, sym, true, Bool, false, ◌&&◌, not, List, ◌++◌, length, drop, take, sets, arith, rules}
use Rattle.model.proofs.Prelude.{not-true, not-false}
use Rattle.model.specs.Base.{little_endian}
use Rattle.model.specs.Report.{same_bytes}
use Rattle.record_bytes.proofs.ByteLaws.{sets_append, part}
use Rattle.report_bytes.specs.Layout.{head_bytes, SameHead}

-- stores one after the other, from the start
pub next-put : (b b' b'' X Y : List ℕ) (j : ℕ) → b' ≡ sets b 0 X → b'' ≡ sets b' j Y → j ≡ length X → b'' ≡ sets b 0 (X ++ Y)
next-put b b' b'' X Y j p q e = q ∙ ap (λ (z : List ℕ). sets z j Y) p ∙ sets_append X Y b 0 j (omega arith)

module _ (tests paths n m r f : ℕ) where
  pub head-put : (b b₁ b₂ b₃ b₄ b₅ b₆ b₇ : List ℕ)
      → b₁ ≡ sets b 0 (little_endian 2 0x5052) → b₂ ≡ sets b₁ 2 (little_endian 4 tests) → b₃ ≡ sets b₂ 6 (little_endian 8 paths) → b₄ ≡ sets b₃ 14 (little_endian 2 n)
      → b₅ ≡ sets b₄ 16 (little_endian 2 m) → b₆ ≡ sets b₅ 18 (little_endian 8 r) → b₇ ≡ sets b₆ 26 (little_endian 8 f) → b₇ ≡ sets b 0 (head_bytes tests paths n m r f)
  unfolding head_bytes
  head-put b b₁ b₂ b₃ b₄ b₅ b₆ b₇ p₁ p₂ p₃ p₄ p₅ p₆ p₇ =
      let X₂ : List ℕ = little_endian 2 0x5052 ++ little_endian 4 tests in
      let X₃ : List ℕ = X₂ ++ little_endian 8 paths in
      let X₄ : List ℕ = X₃ ++ little_endian 2 n in
      let X₅ : List ℕ = X₄ ++ little_endian 2 m in
      let X₆ : List ℕ = X₅ ++ little_endian 8 r in
      let q₂ = next-put b b₁ b₂ (little_endian 2 0x5052) (little_endian 4 tests) 2 p₁ p₂ refl in
      let q₃ = next-put b b₂ b₃ X₂ (little_endian 8 paths) 6 q₂ p₃ refl in
      let q₄ = next-put b b₃ b₄ X₃ (little_endian 2 n) 14 q₃ p₄ refl in
      let q₅ = next-put b b₄ b₅ X₄ (little_endian 2 m) 16 q₄ p₅ refl in
      let q₆ = next-put b b₅ b₆ X₅ (little_endian 8 r) 18 q₅ p₆ refl in
      next-put b b₆ b₇ X₆ (little_endian 8 f) 26 q₆ p₇ refl

  -- field by field
  module _ (report : List ℕ) (h : 34 ≤ length report) where
    abbrev same_field : ℕ → ℕ → ℕ → Bool
    same_field at k x = same_bytes (take k (drop at report)) (little_endian k x)

    fields : (rest : List ℕ) → same_bytes report (head_bytes tests paths n m r f ++ rest)
        ≡ (same_field 0 2 0x5052 && (same_field 2 4 tests && (same_field 6 8 paths
        && (same_field 14 2 n && (same_field 16 2 m && (same_field 18 8 r && (same_field 26 8 f && same_bytes (drop 34 report) rest)))))))
    unfolding head_bytes
    fields rest =
        let R₇ : List ℕ = little_endian 8 f ++ rest in
        let R₆ : List ℕ = little_endian 8 r ++ R₇ in
        let R₅ : List ℕ = little_endian 2 m ++ R₆ in
        let R₄ : List ℕ = little_endian 2 n ++ R₅ in
        let R₃ : List ℕ = little_endian 8 paths ++ R₄ in
        let R₂ : List ℕ = little_endian 4 tests ++ R₃ in
        part report 0 2 (little_endian 2 0x5052) R₂ refl (omega arith)
        ∙ rw (
          part report 2 4 (little_endian 4 tests) R₃ refl (omega arith),
          part report 6 8 (little_endian 8 paths) R₄ refl (omega arith),
          part report 14 2 (little_endian 2 n) R₅ refl (omega arith),
          part report 16 2 (little_endian 2 m) R₆ refl (omega arith),
          part report 18 8 (little_endian 8 r) R₇ refl (omega arith),
          part report 26 8 (little_endian 8 f) rest refl (omega arith),
        ) refl

    module _ (t₁ : Bool) (e₁ : t₁ ≡ same_field 0 2 0x5052) where
      pub head-mark : not t₁ ≡ true → SameHead false report tests paths n m r f
      head-mark z = record { decides = λ rest. fields rest ∙ rw (sym e₁ ∙ not-true t₁ z) refl }

      module _ (y₁ : not t₁ ≡ false) (t₂ : Bool) (e₂ : t₂ ≡ same_field 2 4 tests) where
        pub head-tests : not t₂ ≡ true → SameHead false report tests paths n m r f
        head-tests z = record { decides = λ rest. fields rest ∙ rw (sym e₁ ∙ not-false t₁ y₁, sym e₂ ∙ not-true t₂ z) refl }

        module _ (y₂ : not t₂ ≡ false) (t₃ : Bool) (e₃ : t₃ ≡ same_field 6 8 paths) where
          pub head-paths : not t₃ ≡ true → SameHead false report tests paths n m r f
          head-paths z = record { decides = λ rest. fields rest ∙ rw (sym e₁ ∙ not-false t₁ y₁, sym e₂ ∙ not-false t₂ y₂, sym e₃ ∙ not-true t₃ z) refl }

          module _ (y₃ : not t₃ ≡ false) (t₄ : Bool) (e₄ : t₄ ≡ same_field 14 2 n) where
            pub head-rising : not t₄ ≡ true → SameHead false report tests paths n m r f
            head-rising z = record {
              decides = λ rest. fields rest ∙ rw (sym e₁ ∙ not-false t₁ y₁, sym e₂ ∙ not-false t₂ y₂, sym e₃ ∙ not-false t₃ y₃, sym e₄ ∙ not-true t₄ z) refl;
            }

            module _ (y₄ : not t₄ ≡ false) (t₅ : Bool) (e₅ : t₅ ≡ same_field 16 2 m) where
              rest-5 : (rest : List ℕ) → same_bytes report (head_bytes tests paths n m r f ++ rest) ≡ (t₅ && (same_field 18 8 r && (same_field 26 8 f && same_bytes (drop 34 report) rest)))
              rest-5 rest = fields rest ∙ rw (sym e₁ ∙ not-false t₁ y₁, sym e₂ ∙ not-false t₂ y₂, sym e₃ ∙ not-false t₃ y₃, sym e₄ ∙ not-false t₄ y₄, sym e₅) refl

              pub head-falling : not t₅ ≡ true → SameHead false report tests paths n m r f
              head-falling z = record { decides = λ rest. rest-5 rest ∙ rw (not-true t₅ z) refl }

              module _ (y₅ : not t₅ ≡ false) (t₆ : Bool) (e₆ : t₆ ≡ same_field 18 8 r) where
                pub head-risen : not t₆ ≡ true → SameHead false report tests paths n m r f
                head-risen z = record { decides = λ rest. rest-5 rest ∙ rw (not-false t₅ y₅, sym e₆ ∙ not-true t₆ z) refl }

                pub head-last : not t₆ ≡ false → (t₇ : Bool) → t₇ ≡ same_field 26 8 f → SameHead t₇ report tests paths n m r f
                head-last y₆ t₇ e₇ = record { decides = λ rest. rest-5 rest ∙ rw (not-false t₅ y₅, sym e₆ ∙ not-false t₆ y₆, sym e₇) refl }

pub ruleset head-cases = (head-mark, head-tests, head-paths, head-rising, head-falling, head-risen, head-last, rules)
